-- What senders are told: the reports that they received, and those that come back when the service is settled.
use Rattle.std.specs.Prelude.{◌≡◌, ℤ, List, ◌++◌, All, Contains}
use Rattle.kp_accum.specs.declared.item.Item.{Item}
use Rattle.kp_client.specs.Left.{reports_left}
use Rattle.kp_client.specs.declared.left.Left.{Left}
use Rattle.kp_headline.specs.Outside.{State, known}
use Rattle.kp_lanes.specs.Sender.{all_accepted, all_got, finished_number}
use Rattle.kp_lanes.specs.declared.sender.Finished.{Finished}
use Rattle.kp_rules.specs.Reports.{reports_to}
use Rattle.kp_rules.specs.declared.outcome.Outcome.TheVariants.{Delivered}
use Rattle.kp_rules.specs.declared.outcome.Report.{Report}
use Rattle.kp_world.specs.LogLaws.{StandsAt}
use Rattle.kp_world.specs.World.{Opening}

-- the sender's reports, received or left, in their order
abbrev pub all_reports : Left → Finished → List Report
all_reports left f = all_got f ++ reports_left left (finished_number f)

-- They are of all that the core told of the sender's items, in order, with what became of each.
abbrev pub AreReported : Opening → State → Left → List Finished → Type 0
AreReported o b left finished =
    All (λ f. all_reports left f ≡ reports_to (finished_number f) b.outside.told) finished

-- The report is of one record that the sender had accepted, of the partition and with the number of the report, and this
-- stands at the offset in its partition's log.
pub record StandsAsTold (b : State) (f : Finished) (r : Report) (offset : ℤ) : Type 0 where
  pub item : Item
  pub accepted : Contains (all_accepted f) item
  pub partition : item.partition ≡ r.partition
  pub number : item.number ≡ r.number
  pub alone : (other : Item) → Contains (all_accepted f) other
      → other.partition ≡ r.partition → other.number ≡ r.number → other ≡ item
  pub stands : StandsAt (known b) item offset

abbrev pub DeliveredStand : Opening → State → Left → List Finished → Type 0
DeliveredStand o b left finished =
    All (λ f. (r : Report) (offset : ℤ) → Contains (all_reports left f) r
    → r.outcome ≡ Delivered offset → StandsAsTold b f r offset) finished
