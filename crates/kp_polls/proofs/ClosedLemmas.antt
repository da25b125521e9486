-- Once the core is closed nothing is accepted.
use Rattle.std.proofs.Common.{◌≡◌, ℕ, zero, suc, ◌<◌, ◌%◌, Bool, true, false, List, [], ◌∷◌, length, get_or, refl, sym, ap, ◌∙◌, arith, Contains}
use Rattle.std.specs.Prelude.{MatchBool, ◌==◌, ◌||◌}
use Rattle.std.proofs.lemmas.Bool.{eq-eqb}
use lib.ListN.{get_elem?}
use mathlib.Core.Option.{some}
use Rattle.atomic_table.specs.Table.{Step}
use Rattle.kp_connection.specs.Wire.{Told}
use Rattle.kp_engine.specs.Closing.{ClosedBetween, ClosesOnce}
use Rattle.kp_engine.specs.declared.exchange.Exchange.{Exchange}
use Rattle.kp_engine.proofs.ClosingLemmas.{polls_close}
use Rattle.kp_lanes.specs.Gate.{Gated, Sat, admitted, refused}
use Rattle.kp_lanes.specs.Intake.{intake_view}
use Rattle.kp_lanes.proofs.GateSteps.{nobody}
use Rattle.kp_lanes.specs.declared.gate.view.View.{View}
use Rattle.kp_rules.specs.Calls.{Call}
use Rattle.kp_world.specs.World.{Opening}
use Rattle.kp_polls.specs.Laws.{ClosedToAll, KnowsForGood, LetsNobodyIn}
use Rattle.kp_polls.specs.Polling.{Polling}
use Rattle.kp_polls.proofs.AroundLemmas.{places}

elem_at : (views : List View) (k : ℕ) (d : View) → k < length views → get_elem? views k ≡ some (get_or views k d)
elem_at [] k d near = absurd (omega (arith, near))
elem_at (v ∷ views) zero d near = refl
elem_at (v ∷ views) (suc k) d near = elem_at views k d (omega (arith, near))

-- ---- the gate, where a seat knows that it is quiet

if_true : (P Q : Type 0) (b : Bool) → b ≡ true → MatchBool b P Q → P
if_true P Q true is p = p
if_true P Q false is p = absurd cc

pub lets_nobody_in : (word : ℕ) (views : List View) (v : View) → Gated word views → Contains views v → v.knows_quiet ≡ true → LetsNobodyIn word views
lets_nobody_in word views v g there quiet =
    let at_v : get_elem? views there.0 ≡ some v = elem_at views there.0 v there.1 ∙ ap some there.2 in record {
      nobody_inside = λ k d near. (nobody word views g there.0 k v (get_or views k d) at_v (elem_at views k d near) quiet).0;
      refuses = λ step m m' enters. if_true _ _ (word % 2 == 1) (eq-eqb (word % 2) 1 (nobody word views g there.0 there.0 v v at_v at_v quiet).1) enters;
    }

entered : (v w : View) (b : Bool) → v.knows_quiet ≡ true → MatchBool b (w ≡ refused v) ((v.knows_shut ≡ false) × (w ≡ admitted v)) → w.knows_quiet ≡ true
entered v w true quiet is = ap (λ (u : View). u.knows_quiet) is ∙ quiet
entered v w false quiet is = ap (λ (u : View). u.knows_quiet) is.1 ∙ quiet

or_so : (a b : Bool) → a ≡ true → (a || b) ≡ true
or_so true b is = refl
or_so false b is = absurd cc

pub known_for_good : (step : Step (Unit {0})) (m : Sat) (word : ℕ) (m' : Sat) → m.0.knows_quiet ≡ true → KnowsForGood step m word m'
known_for_good step m word m' quiet = record {
  entering = entered m.0 m'.0 (word % 2 == 1) quiet;
  leaving = λ is. ap (λ (u : View). u.knows_quiet) is ∙ quiet;
  shutting = λ is. ap (λ (u : View). u.knows_quiet) is ∙ quiet;
  looking = λ is. ap (λ (u : View). u.knows_quiet) is.0 ∙ or_so m.0.knows_quiet (word == 1) quiet;
  parting = λ senders. quiet;
}

-- ---- a core that is closed

other_closes : (a b c : Bool) → c ≡ (a || b) → a ≡ false → c ≡ true → b ≡ true
other_closes true b c is none so = absurd cc
other_closes false b c is none so = sym is ∙ so

pub closed_to_all : {S : Type 0} (answers : Told S) (o : Opening) (calls : List Call) (x : Exchange) → (p : Polling answers o calls x) → x.closed ≡ true → ClosedToAll p.first calls x
closed_to_all answers o calls x p closed =
    let c : ClosesOnce p.first calls x = polls_close answers p.first x calls (places answers o calls x p) p.polled in
    let close : ClosedBetween p.first calls x = (c.only (other_closes p.first.closed c.closes x.closed c.closed p.is_new.closed closed)).1 in record {
      close = close;
      lets_nobody_in = λ word views g there. lets_nobody_in word views (intake_view close.at.intake) g there close.quiet;
    }
