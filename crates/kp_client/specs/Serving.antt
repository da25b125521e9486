-- What an engine that a service runs was made of, and that it was polled on to what it is.
use Rattle.std.specs.Prelude.{◌≡◌, ◌⊎◌, true, List}
use Rattle.kp_core.specs.Spent.{can_only_end}
use Rattle.kp_engine.specs.Made.{AreCut, WasCut, WasPolled}
use Rattle.kp_engine.specs.declared.stop.Cause.{Cause}
use Rattle.kp_engine.specs.declared.stop.Cause.TheVariants.{Io}
use Rattle.kp_lanes.specs.declared.intake.Intake.{Intake}
use Rattle.kp_rules.specs.Calls.{Call}
use Rattle.kp_rules.specs.Records.{Core}
use Rattle.kp_running.specs.declared.fleet.Fleet.{Fleet}
use Rattle.kp_running.specs.declared.over.Over.{Over}
use Rattle.kp_running.specs.declared.over.Over.TheVariants as over
use Rattle.kp_client.specs.declared.left.Ending.{Ending}
use Rattle.kp_client.specs.declared.left.Ending.TheVariants.{Done, GaveUp, Spent, OutOfMemory}

-- Among these calls a connection was given up for this; or it is Io, which stands where none was.
abbrev pub LostFor : Core → Intake → List Call → Cause → Type 0
LostFor core intake calls why = (why ≡ Io) ⊎ WasCut core intake calls why

-- It was made of this core and of these lanes, and polled on to what it is. Of each connection that was given up, and of the last
-- that was lost, it is known for what.
pub record Serves {S C K : Type 0} (core : Core) (intake : Intake) (fleet : Fleet S C K) : Type 0 where
  pub calls : List Call
  pub polled : WasPolled core intake calls fleet.engine.exchange
  pub cut : AreCut core intake calls fleet.engine.lines.items
  pub lost : LostFor core intake calls fleet.why

-- It was made of some.
pub record IsServing {S C K : Type 0} (fleet : Fleet S C K) : Type 0 where
  pub core : Core
  pub intake : Intake
  pub serves : Serves core intake fleet

-- Whatever the one was made of, the other is it later.
abbrev pub GoesOn : {S C K : Type 0} → Fleet S C K → Fleet S C K → Type 0
GoesOn old new = (core : Core) (intake : Intake) → Serves core intake old → Serves core intake new

-- A service gives up for what the last connection was lost for, or is spent where its core can only end.
abbrev pub GivesUpFor : {S C K : Type 0} → Ending → Fleet S C K → Type 0
GivesUpFor Done fleet = Unit {0}
GivesUpFor (GaveUp cause) fleet = cause ≡ fleet.why
GivesUpFor Spent fleet = can_only_end fleet.engine.exchange.core ≡ true
GivesUpFor OutOfMemory fleet = Unit {0}

-- why a service ends whose engine does not go on
abbrev pub ending_for : Over → Ending
ending_for over.Done = Done
ending_for (over.GaveUp cause) = GaveUp cause
ending_for over.Spent = Spent
ending_for over.OutOfMemory = OutOfMemory
