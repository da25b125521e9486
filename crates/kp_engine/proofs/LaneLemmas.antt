-- A poll leaves the lanes as they are.
use Rattle.std.proofs.Common.{◌≡◌, ℕ, List, inl, inr, ap, ◌∙◌}
use Rattle.futures.specs.declared.task.Poll.{Poll}
use Rattle.futures.specs.declared.task.Poll.TheVariants.{Ready, Pending}
use Rattle.kp_connection.specs.Wire.{Told, Wired}
use Rattle.kp_lanes.specs.Intake.{lanes_of}
use Rattle.kp_rules.specs.Calls.{Call}
use Rattle.kp_engine.specs.Away.{EndsAway, MakesTurnAway}
use Rattle.kp_engine.specs.Engine.{Polls}
use Rattle.kp_engine.specs.Exchange.{SameLanes}
use Rattle.kp_engine.specs.Polls.{Turns}
use Rattle.kp_engine.specs.declared.engine.Line.{Line}
use Rattle.kp_engine.specs.declared.engine.Line.TheVariants.{Open, Stopped}
use Rattle.kp_engine.specs.declared.exchange.Exchange.{Exchange}
use Rattle.kp_engine.specs.declared.stop.Cause.{Cause}
use Rattle.kp_engine.specs.declared.stop.Stop.{Stop}
use Rattle.kp_engine.specs.declared.stop.Stop.TheVariants.{Done, NeedStream, OutOfMemory}

module _ {S : Type 0} (answers : Told S) where
  of_turn : (node now : ℕ) (x : Exchange) (w : Wired S) (result : Poll Stop) (y : Exchange) (v : Wired S) → Turns answers node now x w result y v → SameLanes x y
  of_turn node now x w Pending y v h = h.lanes
  of_turn node now x w (Ready Done) y v (done, inl on) = on.lanes
  of_turn node now x w (Ready Done) y v (done, inr (cause, cut)) = cut.lanes
  of_turn node now x w (Ready (NeedStream cause)) y v h = h.lanes
  of_turn node now x w (Ready OutOfMemory) y v h = h.lanes

  pub of_poll : (line : Line S) (x : Exchange) (result : Poll Stop) (y : Exchange) (left : Line S) → Polls answers line x result y left → lanes_of y.intake ≡ lanes_of x.intake
  of_poll (Open wire) x result y left h = (of_turn _ _ _ _ _ _ _ h.turns).lanes ∙ ap lanes_of h.cleared.intake
  of_poll (Stopped stop) x result y left h = ap lanes_of h.0.intake

of_away : (node now : ℕ) (cause : Cause) (x : Exchange) (calls : List Call) (stop : Stop) (y : Exchange) → EndsAway node now cause x calls stop y → SameLanes x y
of_away node now cause x calls Done y (done, t) = t.lanes
of_away node now cause x calls (NeedStream still) y (same, t) = t.lanes
of_away node now cause x calls OutOfMemory y t = t.lanes

pub of_turn_away : (cause : Cause) (x : Exchange) (stop : Stop) (y : Exchange) → MakesTurnAway cause x stop y → lanes_of y.intake ≡ lanes_of x.intake
of_turn_away cause x stop y h = (of_away _ _ _ _ _ _ _ h.turns).lanes ∙ ap lanes_of h.cleared.intake
