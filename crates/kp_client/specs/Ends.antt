-- To what a service of a core and of lanes has come: all calls on the core are known.
use Rattle.std.specs.Prelude.{◌≡◌, ◌≢◌, ◌⊎◌, ℕ, true, All, List, Option, [], ◌∷◌, ◌++◌}
use Rattle.kp_core.specs.Spent.{can_only_end}
use Rattle.kp_engine.specs.Made.{WasEnded, WasPolled}
use Rattle.kp_engine.specs.Opening.{MayTurn}
use Rattle.kp_engine.specs.declared.exchange.Exchange.{Exchange}
use Rattle.kp_engine.specs.declared.parts.Parts.{Parts}
use Rattle.kp_engine.specs.declared.stop.Cause.{Cause}
use Rattle.kp_lanes.specs.Intake.{intake_limits, lanes_of, passed_lists, taken_lists, told_lists}
use Rattle.kp_lanes.specs.Settling.{IsOf, SameFinished}
use Rattle.kp_lanes.specs.declared.intake.Intake.{Intake}
use Rattle.kp_lanes.specs.declared.sender.Finished.{Finished}
use Rattle.kp_rules.specs.Calls.{Call, End}
use Rattle.kp_rules.specs.Records.{Core}
use Rattle.kp_running.specs.Over.{IsSpent}
use Rattle.kp_running.specs.declared.fleet.Fleet.{Fleet}
use Rattle.kp_client.specs.Left.{ending_of, new_connections_of, parts_in}
use Rattle.kp_client.specs.Serving.{LostFor, Serves}
use Rattle.kp_client.specs.declared.left.Ended.{Ended}
use Rattle.kp_client.specs.declared.left.Ending.{Ending}
use Rattle.kp_client.specs.declared.left.Ending.TheVariants.{Done, GaveUp, Spent}

-- The same lanes, of which nothing more was taken or told: their ends may have seen more.
pub record Looks (old new : Intake) : Type 0 where
  pub lanes : lanes_of new ≡ lanes_of old
  pub limits : intake_limits new ≡ intake_limits old
  pub passed : passed_lists new ≡ passed_lists old
  pub taken : taken_lists new ≡ taken_lists old
  pub told : told_lists new ≡ told_lists old

-- These are the calls of an engine whose core could only end.
pub record CouldOnlyEnd (core : Core) (intake : Intake) (calls : List Call) : Type 0 where
  pub earlier : List Call
  pub last : Exchange
  pub polled : WasPolled core intake earlier last
  pub spent : can_only_end last.core ≡ true
  pub told : ℕ
  pub made : calls ≡ earlier ++ End told ∷ []

-- An engine was made of them, polled over the connections that there were and with none, ended, and taken apart. It was closed,
-- where the service says that it is done; it lost a connection for the cause for which the service gave up; and where it says that
-- it was spent, its core could only end.
pub record WasServed (core : Core) (intake : Intake) (calls : List Call) (ended : Ended) : Type 0 where
  pub parts : Parts
  pub engine : WasEnded core intake calls parts
  pub same_core : (parts_in ended).core ≡ parts.core
  pub same_held : (parts_in ended).held ≡ parts.held
  pub looks : Looks parts.intake (parts_in ended).intake
  pub done : ending_of ended ≡ Done → engine.last.closed ≡ true
  pub gave_up : (cause : Cause) → ending_of ended ≡ GaveUp cause → LostFor core intake calls cause
  pub spent : ending_of ended ≡ Spent → CouldOnlyEnd core intake calls

-- No engine was made: nothing was called, taken or told.
pub record WasUnserved (core : Core) (intake : Intake) (calls : List Call) (ended : Ended) : Type 0 where
  pub may_turn : MayTurn core intake
  pub no_call : calls ≡ []
  pub same_core : (parts_in ended).core ≡ core
  pub no_item : (parts_in ended).held.items.items ≡ []
  pub no_report : (parts_in ended).held.reports.items ≡ []
  pub looks : Looks intake (parts_in ended).intake
  pub not_done : ending_of ended ≢ Done

-- To give up, as many new connections have to be made as may be. Where there is no limit, it never does.
abbrev pub MayEnd : Option ℕ → Ending → ℕ → Type 0
MayEnd limit (GaveUp cause) made = IsSpent limit made
MayEnd limit ending made = Unit {0}

-- It gave up only then.
abbrev pub GaveUpLast : Option ℕ → Ended → Type 0
GaveUpLast limit ended = MayEnd limit (ending_of ended) (new_connections_of ended)

pub record HasEnded (core : Core) (intake : Intake) (ended : Ended) : Type 0 where
  pub calls : List Call
  pub how : WasServed core intake calls ended ⊎ WasUnserved core intake calls ended

-- Whatever the engine was made of, a service of it has come to this.
abbrev pub EndsAs : {S C K : Type 0} → Fleet S C K → Ended → Type 0
EndsAs fleet ended =
    (core : Core) (intake : Intake) → Serves core intake fleet → HasEnded core intake ended

-- Whatever service has come to the one has come to the other.
abbrev pub StaysEnded : Ended → Ended → Type 0
StaysEnded old new =
    (core : Core) (intake : Intake) → HasEnded core intake old → HasEnded core intake new

-- The end and what has finished are as they were, and can be settled again.
pub record ComesBack (old : Ended) (finished : List Finished) (new : Ended) (back : List Finished) : Type 0 where
  pub same_core : (parts_in new).core ≡ (parts_in old).core
  pub same_held : (parts_in new).held ≡ (parts_in old).held
  pub same_lanes : lanes_of (parts_in new).intake ≡ lanes_of (parts_in old).intake
  pub same_ending : ending_of new ≡ ending_of old
  pub same_connections : new_connections_of new ≡ new_connections_of old
  pub same_end : StaysEnded old new
  pub same_finished : SameFinished finished back
  pub again : All (IsOf (lanes_of (parts_in new).intake)) back
