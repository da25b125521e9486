-- What an engine has served since it was made, poll by poll, up to its end.
use Rattle.std.proofs.Common.{◌≡◌, ℕ, Bool, true, false, List, [], ◌∷◌, ◌++◌, refl, ap, ◌∙◌}
use Rattle.std.specs.Prelude.{if◌then◌else◌}
use Rattle.futures.specs.declared.task.Poll.{Poll}
use Rattle.kp_connection.specs.Wire.{Told}
use Rattle.kp_lanes.specs.declared.intake.Intake.{Intake}
use Rattle.kp_rules.specs.Calls.{Call, End, Step}
use Rattle.kp_rules.specs.Closing.{end_all, end_step}
use Rattle.kp_rules.specs.Records.{Core, quietly}
use Rattle.kp_engine.specs.Away.{MakesTurnAway}
use Rattle.kp_engine.specs.Engine.{IsNew, Polls}
use Rattle.kp_engine.specs.Exchange.{OnlyCore}
use Rattle.kp_engine.specs.Opening.{MayTurn}
use Rattle.kp_engine.specs.Serving.{HasServed, Served}
use Rattle.kp_engine.specs.declared.engine.Line.{Line}
use Rattle.kp_engine.specs.declared.exchange.Exchange.{Exchange}
use Rattle.kp_engine.specs.declared.stop.Cause.{Cause}
use Rattle.kp_engine.specs.declared.stop.Stop.{Stop}
use Rattle.kp_engine.proofs.BegunLemmas.{new_places}
use Rattle.kp_engine.proofs.RunLemmas.{nothing_lived}
use Rattle.kp_engine.proofs.ServedLemmas.{away_serves, end_serves, joined, only_core_serves, poll_serves}

pub none_served : (core : Core) (intake : Intake) (keeps : Bool) (x : Exchange) → MayTurn core intake
    → IsNew core intake keeps x → HasServed core intake [] x
none_served core intake keeps x may is_new = record {
  may = may;
  first = x;
  keeps = keeps;
  is_new = is_new;
  served = only_core_serves x x [] _ (nothing_lived x.core x.core refl) tt (new_places core intake keeps x is_new)
      (record { intake = refl; items = refl; reports = refl; closed = refl }) (record { appends = refl; fetches = λ i. refl });
}

module _ (core : Core) (intake : Intake) (calls : List Call) (x y : Exchange) (h : HasServed core intake calls x) where
  pub more_served : (more : List Call) → Served x more y → HasServed core intake (calls ++ more) y
  more_served more served = record {
    may = h.may;
    first = h.first;
    keeps = h.keeps;
    is_new = h.is_new;
    served = joined h.first x y calls more h.served served;
  }

  pub poll_served : {S : Type 0} (answers : Told S) (line : Line S) (result : Poll Stop) (left : Line S) → Polls answers line x result y left
      → (more : List Call) × HasServed core intake (calls ++ more) y
  poll_served answers line result left polls =
      let made = poll_serves answers line x result y left h.served.places polls in (made.0, more_served made.0 made.1)

  pub away_served : (cause : Cause) (stop : Stop) → (turn : MakesTurnAway cause x stop y) → HasServed core intake (calls ++ turn.calls) y
  away_served cause stop turn = more_served turn.calls (away_serves cause x stop y h.served.places turn)

ended_then : (s t : Core) (told : ℕ) → Step s (End told) t → t.ended ≡ true
unfolding end_step
ended_then s t told step = ap (λ (c : Core). c.ended) step.1 ∙ at_test s.ended refl
  where
    at_test : (b : Bool) → s.ended ≡ b → (if b then quietly s 0 else end_all s).after.ended ≡ true
    at_test true is = is
    at_test false is = refl

pub end_served : (core : Core) (intake : Intake) (calls : List Call) (x y : Exchange) (told : ℕ) → HasServed core intake calls x → Step x.core (End told) y.core
    → OnlyCore x y → HasServed core intake (calls ++ End told ∷ []) y × (y.core.ended ≡ true)
end_served core intake calls x y told h step only = (
  more_served core intake calls x y h (End told ∷ []) (end_serves x y told h.served.places step only),
  ended_then x.core y.core told step,
)
