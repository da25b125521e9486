-- An engine from when it was made until it is taken apart.
use Rattle.std.specs.Prelude.{◌≡◌, ◌++◌, ℕ, Bool, true, List}
use Rattle.std.specs.List.{AllByRecursion}
use Rattle.kp_connection.specs.Answers.{Answer}
use Rattle.kp_connection.specs.Wire.{Told, Wired}
use Rattle.kp_lanes.specs.declared.intake.Intake.{Intake}
use Rattle.kp_rules.specs.Calls.{Call}
use Rattle.kp_rules.specs.Records.{Core}
use Rattle.kp_engine.specs.Closing.{Polled}
use Rattle.kp_engine.specs.Engine.{IsNew}
use Rattle.kp_engine.specs.Exchange.{with_strays}
use Rattle.kp_engine.specs.Opening.{MayTurn}
use Rattle.kp_engine.specs.Parts.{ArePartsOf}
use Rattle.kp_engine.specs.Rounds.{IsCut as IsCutSo}
use Rattle.kp_engine.specs.declared.engine.Line.{Line}
use Rattle.kp_engine.specs.declared.engine.Line.TheVariants.{Open, Stopped}
use Rattle.kp_engine.specs.declared.exchange.Exchange.{Exchange}
use Rattle.kp_engine.specs.declared.node_line.NodeLine.{NodeLine}
use Rattle.kp_engine.specs.declared.parts.Parts.{Parts}
use Rattle.kp_engine.specs.declared.stop.Cause.{Cause}
use Rattle.kp_engine.specs.declared.stop.Stop.TheVariants.{Done, NeedStream, OutOfMemory}

-- of whatever streams there were nothing is told but what was written and read
abbrev pub anything : Told (Unit {0})
anything old xs new = Unit {0}

-- An engine was made of this core and of these lanes. It was polled and ended any number of times, over streams that were
-- lost and given anew, or with none: it is this one now, and these are all calls on its core.
pub record WasPolled (core : Core) (intake : Intake) (calls : List Call) (x : Exchange) : Type 0 where
  pub may_turn : MayTurn core intake
  pub keeps : Bool
  pub first : Exchange
  pub is_new : IsNew core intake keeps first
  pub polled : Polled anything first calls x

-- It was then ended, and taken apart into these.
pub record WasEnded (core : Core) (intake : Intake) (calls : List Call) (parts : Parts) : Type 0 where
  pub last : Exchange
  pub polled : WasPolled core intake calls last
  pub ended : last.core.ended ≡ true
  pub apart : ArePartsOf last parts

-- ---- what a connection was given up for

-- Among these calls are some behind which a connection to a node was given up for this, by what was written and read over it, for a
-- request that had waited too long, or for replies that named none.
pub record WasCut (core : Core) (intake : Intake) (calls : List Call) (cause : Cause) : Type 0 where
  pub earlier : List Call
  pub later : List Call
  pub among : calls ≡ earlier ++ later
  pub x : Exchange
  pub polled : WasPolled core intake earlier x
  pub node : ℕ
  pub now : ℕ
  pub before : Wired (Unit {0})
  pub most : ℕ
  pub strays : ℕ
  pub its : List Call
  pub xs : List Answer
  pub y : Exchange
  pub after : Wired (Unit {0})
  pub cut : IsCutSo anything most node now (with_strays strays x) before its xs cause y after

-- where it was given up, it was cut for this
abbrev pub IsCut : {S : Type 0} → Core → Intake → List Call → Line S → Type 0
IsCut core intake calls (Open wire) = Unit {0}
IsCut core intake calls (Stopped Done) = Unit {0}
IsCut core intake calls (Stopped (NeedStream cause)) = WasCut core intake calls cause
IsCut core intake calls (Stopped OutOfMemory) = Unit {0}

abbrev pub AreCut : {S : Type 0} → Core → Intake → List Call → List (NodeLine S) → Type 0
AreCut core intake calls lines = AllByRecursion (λ l. IsCut core intake calls l.line) lines
