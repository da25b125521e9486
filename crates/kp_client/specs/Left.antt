-- What is left of a producer: each accepted record has one report, or comes back.
use Rattle.std.specs.Prelude.{◌≡◌, ℕ, List, [], ◌∷◌, ◌++◌, All, length, slice_index_or}
use Rattle.kp_accum.specs.declared.item.Item.{Item}
use Rattle.kp_engine.specs.Agreement.{waiting_of}
use Rattle.kp_engine.specs.Parts.{to_sender, HaveReports}
use Rattle.kp_engine.specs.Serving.{from_sender}
use Rattle.kp_engine.specs.declared.parts.Parts.{Parts}
use Rattle.kp_lanes.specs.Intake.{intake_limits, lanes_of}
use Rattle.kp_lanes.specs.Sender.{all_accepted, all_got, finished_id, finished_number}
use Rattle.kp_lanes.specs.Settling.{left_items, left_reports, Adds, EachOnce, IsInPlace, IsOf}
use Rattle.kp_lanes.specs.declared.fault.SettleFault.{SettleFault}
use Rattle.kp_lanes.specs.declared.fault.SettleFault.TheVariants.{Missing, OutOfMemory}
use Rattle.kp_lanes.specs.declared.sender.Finished.{Finished}
use Rattle.kp_lanes.specs.declared.settling.Settled.{Settled}
use Rattle.kp_rules.specs.declared.outcome.Report.{Report}
use Rattle.kp_client.specs.declared.left.Ended.{Ended}
use Rattle.kp_client.specs.declared.left.Ending.{Ending}
use Rattle.kp_client.specs.declared.left.Left.{Left}

abbrev pub parts_in : Ended → Parts
parts_in ended = ended.parts

abbrev pub ending_of : Ended → Ending
ending_of ended = ended.ending

-- the new connections that its policy had counted
abbrev pub new_connections_of : Ended → ℕ
new_connections_of ended = ended.new_connections

-- the sender's records that come back: the one that was held, and those that were not taken
abbrev pub items_left : Left → ℕ → List Item
items_left left i = from_sender i left.held.items.items ++ slice_index_or (left_items left.items.items) i []

-- the sender's reports that it did not receive: those of its ring, the one that was held, and those that wait in the core
abbrev pub reports_left : Left → ℕ → List Report
reports_left left i = slice_index_or (left_reports left.reports.items) i []
    ++ to_sender i left.held.reports.items ++ waiting_of left.core i

-- Of the records that a sender had accepted, in their order, those first have one report each, received or left; and the
-- others come back.
pub record AccountsFor (left : Left) (f : Finished) : Type 0 where
  pub sent : List Item
  pub in_order : all_accepted f ≡ sent ++ items_left left (finished_number f)
  pub reported : HaveReports sent (all_got f ++ reports_left left (finished_number f))

-- what was left in the rings
abbrev pub rings_left : Left → Settled
rings_left left = record { left = left.items; reports = left.reports }

-- Each sender of these lanes has finished, with what it had accepted numbered by place, and this is left: what it had
-- accepted was taken or is left, in order, and what was handed over to it was received or is left, in order.
pub record IsSettled (parts : Parts) (finished : List Finished) (left : Left) : Type 0 where
  pub theirs : All (IsOf (lanes_of parts.intake)) finished
  pub each_once : EachOnce (length (lanes_of parts.intake)) finished
  pub in_place : All (IsInPlace (intake_limits parts.intake)) finished
  pub adds : All (Adds parts.intake (rings_left left)) finished
  pub same_core : left.core ≡ parts.core
  pub same_held : left.held ≡ parts.held

-- it is the only sender's, at the only lane
pub record IsOnly (parts : Parts) (f : Finished) : Type 0 where
  pub lane : lanes_of parts.intake ≡ finished_id f ∷ []
  pub number : finished_number f ≡ 0

-- Why it could not be settled: not each sender has finished, once; or memory is wanting.
abbrev pub IsWhy : Parts → List Finished → SettleFault → Type 0
IsWhy parts finished Missing = ¬ EachOnce (length (lanes_of parts.intake)) finished
IsWhy parts finished OutOfMemory = EachOnce (length (lanes_of parts.intake)) finished
