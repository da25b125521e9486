-- The bytes of a connection.
use Rattle.std.proofs.Common.{◌≡◌, ◌⊎◌, inl, inr, ℕ, List, [], ◌∷◌, ◌++◌, Option, Some, None, refl, sym, ap, ◌∙◌, subst, append-nil, append_assoc}
use Rattle.std.specs.Prelude.{Ok, flat_map}
use Rattle.std.specs.List.{concat}
use Rattle.std.proofs.lemmas.Grind.{flat_map-append}
use Rattle.std.proofs.lemmas.List.Folds.{concat-append}
use Rattle.kp_embed.specs.Asking.{Asks, HasNone}
use Rattle.kp_embed.specs.Connecting.{Connects}
use Rattle.kp_embed.specs.Hearing.{Listens, frames}
use Rattle.kp_embed.specs.Lines.{line_at}
use Rattle.kp_embed.specs.Producer.{Producer, fresh_line}
use Rattle.kp_embed.specs.Taking.{CarriesOut}
use Rattle.kp_embed.specs.declared.line.Line.{Line}
use Rattle.kp_embed.specs.declared.line.Question.{Question}
use Rattle.kp_embed_laws.specs.Connection.{Asked, Carries, Over}
use Rattle.kp_frames.specs.Stream.{frame}
use Rattle.kp_rules.specs.declared.names.Names.{Names}
use Rattle.kp_rules.specs.Calls.{Call}

-- there is one line
same_line : (x : Option Line) (a b : Line) → x ≡ Some a → x ≡ Some b → a ≡ b
same_line x a b p q = unsome (sym p ∙ q)
  where
    unsome : Some a ≡ Some b → a ≡ b
    unsome e = cc

concat_one : (asked : List (List ℕ)) (bytes : List ℕ) → concat asked ++ bytes ≡ concat (asked ++ bytes ∷ [])
concat_one asked bytes = ap (λ (xs : List ℕ). concat asked ++ xs) (sym (append-nil bytes)) ∙ sym (concat-append asked (bytes ∷ []))

-- ---- what is asked more

record More (names : Names) (node : ℕ) (calls : List Call) (asked : List (List ℕ)) (out : List ℕ) : Type 0 where
  all : List (List ℕ)
  by : Asked names node calls all
  whole : concat asked ++ out ≡ concat all

asked_more : (names : Names) (node now : ℕ) (mine calls : List Call) (asked : List (List ℕ)) (out : List ℕ) (q after : Option Question) → Asked names node mine asked → Asks names node now q out calls after
    → More names node (mine ++ calls) asked out
asked_more names node now mine calls asked out q after by (Asks.nothing same more none) = record {
  all = asked;
  by = Asked.nothing mine calls asked now by none;
  whole = append-nil (concat asked);
}
asked_more names node now mine calls asked out q after by Asks.metadata = record {
  all = asked ++ out ∷ [];
  by = subst (λ (cs : List Call). Asked names node cs (asked ++ out ∷ [])) (sym (append-nil mine)) (Asked.metadata mine asked by);
  whole = concat_one asked out;
}
asked_more names node now mine calls asked out q after by Asks.producer_id = record {
  all = asked ++ out ∷ [];
  by = subst (λ (cs : List Call). Asked names node cs (asked ++ out ∷ [])) (sym (append-nil mine)) (Asked.producer_id mine asked by);
  whole = concat_one asked out;
}
asked_more names node now mine calls asked out q after by (Asks.request same o) = record {
  all = asked ++ out ∷ [];
  by = Asked.request mine asked now o by;
  whole = concat_one asked out;
}

-- ---- one call

carries_taken : (node now : ℕ) (p q : Producer) (taken fed bytes : List ℕ) (heard : List (List ℕ)) (mine : List Call) → Carries node taken fed heard mine p → (c : CarriesOut node now p bytes q)
    → Carries node (taken ++ bytes) fed heard (mine ++ c.asks.calls) q
carries_taken node now p q taken fed bytes heard mine h c = at c.asks.asks
  where
    line : h.line ≡ c.line
    line = same_line (line_at node p.lines) h.line c.line h.is c.is

    written : taken ++ c.line.out ≡ concat h.asked
    written = ap (λ (l : Line). taken ++ l.out) (sym line) ∙ h.written

    after_is : (taken ++ bytes) ++ c.after.out ≡ taken ++ c.asked.out
    after_is = append_assoc taken bytes c.after.out ∙ ap (λ (xs : List ℕ). taken ++ xs) (sym c.bytes)

    read : frames heard ++ c.after.held ≡ fed
    read = ap (λ (xs : List ℕ). frames heard ++ xs) (c.rest.1 ∙ c.asks.held ∙ ap (λ (l : Line). l.held) (sym line)) ∙ h.read

    by_names : (all : List (List ℕ)) → Asked p.names node (mine ++ c.asks.calls) all → Asked q.names node (mine ++ c.asks.calls) all
    by_names all by = subst (λ (n : Names). Asked n node (mine ++ c.asks.calls) all) (sym c.asks.acts.names) by

    at : (((c.asks.calls ≡ []) × (c.asked.question ≡ c.line.question) × (c.asked.out ≡ c.line.out))
        ⊎ ((c.line.out ≡ []) × Asks p.names node now c.line.question c.asked.out c.asks.calls c.asked.question)) → Carries node (taken ++ bytes) fed heard (mine ++ c.asks.calls) q
    at (inl same) = record {
      line = c.after;
      is = c.lines.its;
      asked = h.asked;
      by = by_names h.asked (Asked.nothing mine c.asks.calls h.asked now h.by (subst (λ (cs : List Call). HasNone node now cs) (sym same.0) HasNone.unasked));
      written = after_is ∙ ap (λ (xs : List ℕ). taken ++ xs) same.2 ∙ written;
      read = read;
    }
    at (inr next) =
        let more = asked_more p.names node now mine c.asks.calls h.asked c.asked.out c.line.question c.asked.question h.by next.1 in
        let all_taken : taken ≡ concat h.asked = sym (append-nil taken) ∙ ap (λ (xs : List ℕ). taken ++ xs) (sym next.0) ∙ written in record {
          line = c.after;
          is = c.lines.its;
          asked = more.all;
          by = by_names more.all more.by;
          written = after_is ∙ ap (λ (xs : List ℕ). xs ++ c.asked.out) all_taken ∙ more.whole;
          read = read;
        }

carries_fed : (node now : ℕ) (p q : Producer) (taken fed bytes : List ℕ) (heard : List (List ℕ)) (mine : List Call) → Carries node taken fed heard mine p → (l : Listens node now p bytes q)
    → Carries node taken (fed ++ bytes) (heard ++ l.hears.contents) mine q
carries_fed node now p q taken fed bytes heard mine h l = record {
  line = l.after;
  is = l.lines.its;
  asked = h.asked;
  by = subst (λ (n : Names). Asked n node mine h.asked) (sym l.hears.acts.names) h.by;
  written = ap (λ (xs : List ℕ). taken ++ xs) (l.hears.out ∙ ap (λ (x : Line). x.out) (sym line)) ∙ h.written;
  read =
      ap (λ (xs : List ℕ). xs ++ l.after.held) (flat_map-append frame.spell heard l.hears.contents)
      ∙ append_assoc (frames heard) (frames l.hears.contents) l.after.held
      ∙ ap (λ (xs : List ℕ). frames heard ++ xs) (sym l.hears.first)
      ∙ sym (append_assoc (frames heard) l.line.held bytes)
      ∙ ap (λ (x : Line). (frames heard ++ x.held) ++ bytes) (sym line)
      ∙ ap (λ (xs : List ℕ). xs ++ bytes) h.read;
}
  where
    line : h.line ≡ l.line
    line = same_line (line_at node p.lines) h.line l.line h.is l.is

-- ---- any calls

pub carries : (node : ℕ) (taken fed : List ℕ) (heard : List (List ℕ)) (mine : List Call) (q : Producer) → Over node taken fed heard mine q → Carries node taken fed heard mine q
carries node taken fed heard mine q (Over.connected now p r c) = record {
  line = fresh_line;
  is = c.lines.its;
  asked = [];
  by = Asked.none;
  written = refl;
  read = refl;
}
carries node taken fed heard mine q (Over.took now p r before earlier bytes old calls over c) =
    carries_taken node now p r before earlier bytes old calls (carries node before earlier old calls p over) c
carries node taken fed heard mine q (Over.listened now p r before earlier bytes old calls over l) =
    carries_fed node now p r before earlier bytes old calls (carries node before earlier old calls p over) l
carries node taken fed heard mine q (Over.meanwhile p r before earlier old calls more over acts same) =
    let h = carries node before earlier old calls p over in record {
      line = h.line;
      is = same ∙ h.is;
      asked = h.asked;
      by = subst (λ (n : Names). Asked n node calls h.asked) (sym acts.names) h.by;
      written = h.written;
      read = h.read;
    }
