-- Stretches of calls on the core and on the stream, one after the other.
use Rattle.std.proofs.Common.{◌≡◌, ℕ, List, [], ◌∷◌, ◌++◌, Some, Ok, Err, refl, sym, subst, ◌∙◌, append-nil}
use Rattle.std.specs.Prelude.{Option, Result}
use Rattle.std.specs.Global.{Vec}
use Rattle.std.specs.declared.alloc.AllocError.{AllocError}
use Rattle.kp_rules.specs.Calls.{Request, Step}
use Rattle.kp_rules.specs.Records.{Core}
use Rattle.kp_rules.specs.declared.fault.CoreFault.{CoreFault}
use Rattle.kp_rules.specs.declared.outgoing.Outgoing.{Outgoing}
use Rattle.std.proofs.lemmas.List.{map-append}
use Rattle.kp_connection.specs.Answers.{Answer}
use Rattle.kp_connection.specs.Wire.{Told, Wired, Goes}
use Rattle.kp_connection.proofs.WireLemmas.{Goes-then}
use Rattle.kp_rules.specs.Calls.{Call}
use Rattle.kp_engine.specs.Exchange.{OnlyCore, Runs}
use Rattle.kp_engine.specs.Talking.{Requested, Talks, contents_of, frames_of}
use Rattle.kp_engine.specs.Turn.{Heard}
use Rattle.kp_engine.proofs.RunLemmas.{runs_none, runs_then}
use Rattle.kp_engine.specs.declared.exchange.Exchange.{Exchange}

pub some_same : {A : Type 0} (x y : A) → Some x ≡ Some y → x ≡ y
some_same x y is = cc

-- what holds of it, holds of it where it is some
pub for_some : {A : Type 0} (P : A → Type 0) (x : A) → P x → (y : A) → Some x ≡ Some y → P y
for_some P x p y is = subst P (some_same x y is) p

-- an answer to a request under a pattern
pub asked_by : (s t : Core) (node now : ℕ) (given is : Option Outgoing) → given ≡ is → Step s (Request node now (Ok given)) t → Step s (Request node now (Ok is)) t
asked_by s t node now given is same step = subst (λ (o : Option Outgoing). Step s (Request node now (Ok o)) t) same step

-- the request that goes out, under a pattern
pub went_out : (node now : ℕ) (x y : Exchange) (r : Result (Option (Result (Vec ℕ) AllocError)) CoreFault) (o : Option (Result (Vec ℕ) AllocError)) (frame : Result (Vec ℕ) AllocError)
    → r ≡ Ok o → o ≡ Some frame → Requested node now x r y → Requested node now x (Ok (Some frame)) y
went_out node now x y r o frame is some made =
    subst (λ (p : Option (Result (Vec ℕ) AllocError)). Requested node now x (Ok p) y) some
    (subst (λ (q : Result (Option (Result (Vec ℕ) AllocError)) CoreFault). Requested node now x q y) is made)

-- the fault that was answered, under a pattern
pub refused_out : (node now : ℕ) (x y : Exchange) (r : Result (Option (Result (Vec ℕ) AllocError)) CoreFault) (f fault : CoreFault)
    → r ≡ Err f → f ≡ fault → Requested node now x r y → Runs x (Request node now (Err fault) ∷ []) y
refused_out node now x y r f fault is same made =
    subst (λ (p : CoreFault). Runs x (Request node now (Err p) ∷ []) y) same
    (subst (λ (q : Result (Option (Result (Vec ℕ) AllocError)) CoreFault). Requested node now x q y) is made)

-- ---- stretches

pub only_same : (x : Exchange) → OnlyCore x x
only_same x = record { intake = refl; items = refl; reports = refl; closed = refl }

pub only_then : (x y z : Exchange) → OnlyCore x y → OnlyCore y z → OnlyCore x z
only_then x y z p q = record {
  intake = q.intake ∙ p.intake;
  items = q.items ∙ p.items;
  reports = q.reports ∙ p.reports;
  closed = q.closed ∙ p.closed;
}

pub frames_then : (a b : List Outgoing) → frames_of (a ++ b) ≡ frames_of a ++ frames_of b
frames_then a b = map-append (λ (request : Outgoing). request.bytes) a b

pub contents_then : (a b : List Heard) → contents_of (a ++ b) ≡ contents_of a ++ contents_of b
contents_then a b = map-append (λ (reply : Heard). reply.content) a b

module _ {S : Type 0} (answers : Told S) where
  -- calls on the core alone
  pub talks_by_core : ((s : S) → answers s [] s) → (x y : Exchange) (w : Wired S) (calls : List Call) → Runs x calls y → OnlyCore x y → Talks answers x w [] [] calls [] y w
  talks_by_core nothing x y w calls runs only = record {
    runs = runs;
    only = only;
    goes = record { told = nothing w.stream; written = sym (append-nil w.kept); read = sym (append-nil w.held); contents = tt };
  }

  pub talks_none : ((s : S) → answers s [] s) → (x : Exchange) (w : Wired S) → Talks answers x w [] [] [] [] x w
  talks_none nothing x w = talks_by_core nothing x x w [] (runs_none x x refl refl) (only_same x)

  -- calls on the stream alone
  pub talks_by_wire : (x : Exchange) (w v : Wired S) (xs : List Answer) → Goes answers w [] [] xs v → Talks answers x w [] [] [] xs x v
  talks_by_wire x w v xs goes = record { runs = runs_none x x refl refl; only = only_same x; goes = goes }

  module _ (in_order : (a : S) (xs : List Answer) (b : S) (ys : List Answer) (c : S) → answers a xs b → answers b ys c → answers a (xs ++ ys) c) where
    pub talks_then : (x y z : Exchange) (w v u : Wired S) (sent more : List Outgoing) (heard news : List Heard) (calls others : List Call) (xs ys : List Answer)
        → Talks answers x w sent heard calls xs y v → Talks answers y v more news others ys z u
        → Talks answers x w (sent ++ more) (heard ++ news) (calls ++ others) (xs ++ ys) z u
    talks_then x y z w v u sent more heard news calls others xs ys p q = record {
      runs = runs_then x y z calls others p.runs q.runs;
      only = only_then x y z p.only q.only;
      goes = rw (frames_then sent more, contents_then heard news)
          (Goes-then answers in_order w v u (frames_of sent) (contents_of heard) (frames_of more) (contents_of news) xs ys p.goes q.goes);
    }

    -- a stretch, and then calls on the stream alone
    pub talks_then_wire : (x y : Exchange) (w v u : Wired S) (sent : List Outgoing) (heard : List Heard) (calls : List Call) (xs ys : List Answer)
        → Talks answers x w sent heard calls xs y v → Goes answers v [] [] ys u
        → Talks answers x w sent heard calls (xs ++ ys) y u
    talks_then_wire x y w v u sent heard calls xs ys p goes =
        subst (λ (a : List Outgoing). Talks answers x w a heard calls (xs ++ ys) y u) (append-nil sent)
        (subst (λ (b : List Heard). Talks answers x w (sent ++ []) b calls (xs ++ ys) y u) (append-nil heard)
        (subst (λ (c : List Call). Talks answers x w (sent ++ []) (heard ++ []) c (xs ++ ys) y u) (append-nil calls)
        (talks_then x y y w v u sent [] heard [] calls [] xs ys p (talks_by_wire y v u ys goes))))

    -- a stretch, and then calls on the core alone
    pub talks_then_core : ((s : S) → answers s [] s) → (x y z : Exchange) (w v : Wired S) (sent : List Outgoing) (heard : List Heard) (calls others : List Call) (xs : List Answer)
        → Talks answers x w sent heard calls xs y v → Runs y others z → OnlyCore y z
        → Talks answers x w sent heard (calls ++ others) xs z v
    talks_then_core nothing x y z w v sent heard calls others xs p runs only =
        subst (λ (a : List Outgoing). Talks answers x w a heard (calls ++ others) xs z v) (append-nil sent)
        (subst (λ (b : List Heard). Talks answers x w (sent ++ []) b (calls ++ others) xs z v) (append-nil heard)
        (subst (λ (ys : List Answer). Talks answers x w (sent ++ []) (heard ++ []) (calls ++ others) ys z v) (append-nil xs)
        (talks_then x y z w v v sent [] heard [] calls others xs [] p (talks_by_core nothing y z v others runs only))))
