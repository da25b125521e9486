-- What is asked next.
use Rattle.std.proofs.Common.{◌≡◌, ℕ, List, [], ◌∷◌, Option, Some, None, inl, inr, refl, sym, subst}
use Rattle.std.specs.Prelude.{Ok, Err}
use Rattle.kp_embed.specs.Asking.{Asks, HasNone}
use Rattle.kp_embed.specs.Going.{Acts}
use Rattle.kp_embed.specs.Producer.{Producer}
use Rattle.kp_embed.specs.Taking.{AsksNext, AsksNone}
use Rattle.kp_embed.specs.declared.line.Line.{Line}
use Rattle.kp_embed.specs.declared.line.Question.{Question}
use Rattle.kp_embed.specs.declared.line.Question.TheVariants.{Metadata, ProducerId}
use Rattle.kp_embed.proofs.ActLemmas.{acts_idly, acts_one}
use Rattle.kp_hello.specs.Asking.{frame_of, metadata_request, producer_id_request}
use Rattle.kp_rules.specs.declared.outgoing.Outgoing.{Outgoing}
use Rattle.kp_rules.specs.declared.fault.CoreFault.{CoreFault}
use Rattle.kp_rules.specs.Calls.{Call, Request, Step}
use Rattle.kp_rules.specs.Records.{Core}

abbrev pub with_out : List ℕ → Line → Line
with_out bytes line = record line { out = bytes }

abbrev pub asked : Question → List ℕ → Line → Line
asked q bytes line = record line { question = Some q; out = bytes }

pub asks_metadata : (node now : ℕ) (a b : Producer) (line : Line) (bytes : List ℕ) → b.config ≡ a.config → b.names ≡ a.names → b.core ≡ a.core → b.counts ≡ a.counts
    → line.question ≡ None → line.out ≡ [] → bytes ≡ frame_of (metadata_request a.names) → AsksNext node now a line b (asked Metadata bytes line)
asks_metadata node now a b line bytes config names core counts none out is = record {
  calls = [];
  acts = acts_idly a b config names core counts;
  held = refl;
  asks = inr (
    out,
    subst (λ (q : Option Question). Asks a.names node now q bytes [] (Some Metadata)) (sym none)
        (subst (λ (xs : List ℕ). Asks a.names node now None xs [] (Some Metadata)) (sym is) Asks.metadata),
  );
}

pub asks_producer_id : (node now : ℕ) (a b : Producer) (line : Line) (bytes : List ℕ) → b.config ≡ a.config → b.names ≡ a.names → b.core ≡ a.core → b.counts ≡ a.counts
    → line.question ≡ None → line.out ≡ [] → bytes ≡ frame_of (producer_id_request a.names) → AsksNext node now a line b (asked ProducerId bytes line)
asks_producer_id node now a b line bytes config names core counts none out is = record {
  calls = [];
  acts = acts_idly a b config names core counts;
  held = refl;
  asks = inr (
    out,
    subst (λ (q : Option Question). Asks a.names node now q bytes [] (Some ProducerId)) (sym none)
        (subst (λ (xs : List ℕ). Asks a.names node now None xs [] (Some ProducerId)) (sym is) Asks.producer_id),
  );
}

pub asks_request : (node now : ℕ) (a b : Producer) (line : Line) (s t : Core) (o : Outgoing) → b.config ≡ a.config → b.names ≡ a.names → a.core ≡ Some s → Step s (Request node now (Ok (Some o))) t
    → b.core ≡ Some t → b.counts ≡ a.counts → line.out ≡ [] → AsksNext node now a line b (with_out o.bytes line)
asks_request node now a b line s t o config names old step new counts out = record {
  calls = Request node now (Ok (Some o)) ∷ [];
  acts = acts_one a b s t (Request node now (Ok (Some o))) config names old step new counts tt;
  held = refl;
  asks = inr (out, Asks.request line.question o);
}

pub asks_nothing : (node now : ℕ) (a b : Producer) (line : Line) (calls : List Call) → Acts a calls b → HasNone node now calls → line.out ≡ [] → AsksNext node now a line b line
asks_nothing node now a b line calls acts none out = record {
  calls = calls;
  acts = acts;
  held = refl;
  asks = inr (out, subst (λ (xs : List ℕ). Asks a.names node now line.question xs calls line.question) (sym out) (Asks.nothing line.question calls none));
}

pub asks_idle : (node now : ℕ) (a b : Producer) (line : Line) (s t : Core) → b.config ≡ a.config → b.names ≡ a.names → a.core ≡ Some s → Step s (Request node now (Ok None)) t
    → b.core ≡ Some t → b.counts ≡ a.counts → line.out ≡ [] → AsksNext node now a line b line
asks_idle node now a b line s t config names old step new counts out =
    asks_nothing node now a b line (Request node now (Ok None) ∷ []) (acts_one a b s t (Request node now (Ok None)) config names old step new counts tt) HasNone.idle out

pub asks_refused : (node now : ℕ) (a b : Producer) (line : Line) (s t : Core) (fault : CoreFault) → b.config ≡ a.config → b.names ≡ a.names → a.core ≡ Some s → Step s (Request node now (Err fault)) t
    → b.core ≡ Some t → b.counts ≡ a.counts → line.out ≡ [] → AsksNext node now a line b line
asks_refused node now a b line s t fault config names old step new counts out =
    asks_nothing node now a b line (Request node now (Err fault) ∷ []) (acts_one a b s t (Request node now (Err fault)) config names old step new counts tt) (HasNone.refused fault) out

pub refused_none : (node now : ℕ) (a b : Producer) (s t : Core) (fault : CoreFault) → b.config ≡ a.config → b.names ≡ a.names → a.core ≡ Some s → Step s (Request node now (Err fault)) t
    → b.core ≡ Some t → b.counts ≡ a.counts → AsksNone node now a b
refused_none node now a b s t fault config names old step new counts = record {
  calls = Request node now (Err fault) ∷ [];
  acts = acts_one a b s t (Request node now (Err fault)) config names old step new counts tt;
  none = HasNone.refused fault;
}

pub none_asked : (node now : ℕ) (a : Producer) → AsksNone node now a a
none_asked node now a = record { calls = []; acts = acts_idly a a refl refl refl refl; none = HasNone.unasked }

-- what waited waits still
pub asks_later : (node now : ℕ) (a : Producer) (line : Line) → AsksNext node now a line a line
asks_later node now a line = record {
  calls = [];
  acts = acts_idly a a refl refl refl refl;
  held = refl;
  asks = inl (refl, refl, refl);
}
