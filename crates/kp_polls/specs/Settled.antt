-- What senders had accepted, once they have finished and their lanes are settled.
use Rattle.std.specs.Prelude.{◌≡◌, List, [], length, All, slice_index_or}
use Rattle.kp_accum.specs.declared.item.Item.{Item}
use Rattle.kp_lanes.specs.Entries.{count_of}
use Rattle.kp_lanes.specs.Intake.{intake_limits, lanes_of}
use Rattle.kp_lanes.specs.Sender.{Accepts, accepted, all_accepted, finished_number, sender_number}
use Rattle.kp_lanes.specs.Settling.{Adds, EachOnce, IsInPlace, IsOf}
use Rattle.kp_lanes.specs.declared.intake.Intake.{Intake}
use Rattle.kp_lanes.specs.declared.sender.Finished.{Finished}
use Rattle.kp_lanes.specs.declared.sender.Sender.{Sender}
use Rattle.kp_lanes.specs.declared.settling.Settled.{Settled}
use Rattle.kp_world.specs.World.{Opening}

-- ---- a sender

-- The sender's `send` may put this item behind those that it had accepted.
pub record IsSent (s : Sender) (i : Item) : Type 0 where
  pub sender : i.sender ≡ sender_number s
  pub accepts : Accepts s i.partition i.body
  pub number : i.number ≡ count_of i.partition (accepted s)

-- ---- all senders

-- The lanes were settled: each sender has finished, with what it had accepted numbered by place, and this was left.
pub record AreSettled (lanes : Intake) (finished : List Finished) (s : Settled) : Type 0 where
  pub theirs : All (IsOf (lanes_of lanes)) finished
  pub each_once : EachOnce (length (lanes_of lanes)) finished
  pub in_place : All (IsInPlace (intake_limits lanes)) finished
  pub adds : All (Adds lanes s) finished

-- By sender, all that it had accepted.
pub record HadAccepted (o : Opening) (finished : List Finished) (lists : List (List Item)) : Type 0 where
  pub senders : length lists ≡ o.senders
  pub all : All (λ f. slice_index_or lists (finished_number f) [] ≡ all_accepted f) finished
