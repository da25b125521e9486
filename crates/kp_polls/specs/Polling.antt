-- An engine since it was made, and what its senders had accepted.
use Rattle.std.specs.Prelude.{◌≡◌, ℕ, ◌<◌, Bool, List, [], length, slice_index_or}
use mathlib.Core.List.{IsPrefix}
use Rattle.kp_accum.specs.declared.item.Item.{Item}
use Rattle.kp_connection.specs.Wire.{Told}
use Rattle.kp_engine.specs.Closing.{Polled}
use Rattle.kp_engine.specs.Engine.{IsNew}
use Rattle.kp_engine.specs.Opening.{MayTurn}
use Rattle.kp_engine.specs.declared.exchange.Exchange.{Exchange}
use Rattle.kp_headline.specs.Offering.{AllOffered}
use Rattle.kp_headline.specs.Outside.{new_state}
use Rattle.kp_lanes.specs.Intake.{taken_of}
use Rattle.kp_lanes.specs.declared.intake.Intake.{Intake}
use Rattle.kp_rules.specs.Calls.{Call}
use Rattle.kp_rules.specs.Records.{Core}
use Rattle.kp_world.specs.Run.{MayBegin}
use Rattle.kp_world.specs.World.{Opening}

-- a new core
abbrev pub core_of : Opening → Core
core_of o = (new_state o).core

-- An engine was made of a new core and of lanes through which nothing went. It was polled and ended any number of times,
-- over streams that were lost and given anew: it is this one now, and these are all calls on its core.
pub record Polling {S : Type 0} (answers : Told S) (o : Opening) (calls : List Call) (x : Exchange) : Type 0 where
  pub may_begin : MayBegin o
  pub intake : Intake
  pub may_turn : MayTurn (core_of o) intake
  pub keeps : Bool
  pub first : Exchange
  pub is_new : IsNew (core_of o) intake keeps first
  pub polled : Polled answers first calls x

-- By sender, the items that were accepted: each is numbered by its place and within the limits. What the engine took of a
-- sender's lane are the first of its items; the others are in the lane, or not yet sent.
pub record HaveAccepted (o : Opening) (x : Exchange) (accepted : List (List Item)) : Type 0 where
  pub senders : length accepted ≡ o.senders
  pub offered : AllOffered o 0 accepted
  pub taken : (i : ℕ) → i < o.senders → IsPrefix (taken_of x.intake i) (slice_index_or accepted i [])
