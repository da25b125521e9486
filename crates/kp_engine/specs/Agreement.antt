-- What holds between a core and the lanes that it serves, and of what is held between them.
use Rattle.std.specs.Prelude.{◌≡◌, ℕ, ◌≤◌, true, List, [], length, Option, Some, None, All, slice_index_or}
use Rattle.kp_accum.specs.declared.item.Item.{Item}
use Rattle.kp_lanes.specs.Intake.{lanes_of, intake_limits}
use Rattle.kp_lanes.specs.declared.intake.Intake.{Intake}
use Rattle.kp_lanes.specs.declared.limits.Limits.{Limits}
use Rattle.kp_rules.specs.declared.outcome.Report.{Report}
use Rattle.kp_rules.specs.Appending.{may_append}
use Rattle.kp_rules.specs.Records.{Core}

-- What may be sent on the lanes may be appended.
pub record Serves (core : Core) (limits : Limits) : Type 0 where
  pub partitions : limits.partitions ≤ length core.partitions
  pub request : limits.max_record ≤ core.config.max_request_size
  pub memory : limits.max_record ≤ core.config.buffer_memory
  pub size : limits.max_record ≤ 8388608  -- as max.request.size may be at most

-- the report held back at a sender's place, or the item, if there is one
abbrev pub held_at : {A : Type 0} → List (Option A) → ℕ → Option A
held_at places i = slice_index_or places i None

-- the reports of a sender that are not fetched
abbrev pub waiting_of : Core → ℕ → List Report
waiting_of core i = slice_index_or core.reports i []

-- Each sender has its place, and what is held or waits there is its own.
pub record Agree (core : Core) (intake : Intake) (items : List (Option Item)) (reports : List (Option Report)) : Type 0 where
  pub lanes : length (lanes_of intake) ≡ length items
  pub senders : length core.reports ≡ length items
  pub places : length reports ≡ length items
  pub few : length items ≤ 64
  pub serves : Serves core (intake_limits intake)
  pub its_item : (i : ℕ) (x : Item) → held_at items i ≡ Some x → x.sender ≡ i
  pub may_append : (i : ℕ) (x : Item) → held_at items i ≡ Some x → may_append x core ≡ true
  pub its_report : (i : ℕ) (r : Report) → held_at reports i ≡ Some r → r.sender ≡ i
  pub its_waiting : (i : ℕ) → All (λ r. r.sender ≡ i) (waiting_of core i)
