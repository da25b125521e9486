-- What an engine is taken apart into: each item that was taken has one report, or comes back.
use Rattle.std.specs.Prelude.{◌≡◌, ℕ, ◌<◌, ◌==◌, List, ◌++◌, filter, length, option_to_list, sum_by}
use Rattle.std.specs.List.{flat_map}
use Rattle.kp_accum.specs.declared.item.Item.{Item}
use Rattle.kp_lanes.specs.Intake.{lanes_of, taken_of, told_of}
use Rattle.kp_rules.specs.declared.outcome.Report.{Report}
use Rattle.kp_engine.specs.Agreement.{waiting_of}
use Rattle.kp_engine.specs.Serving.{from_sender}
use Rattle.kp_engine.specs.declared.exchange.Exchange.{Exchange}
use Rattle.kp_engine.specs.declared.parts.Parts.{Parts}

-- the reports to a sender, in their order
abbrev pub to_sender : ℕ → List Report → List Report
to_sender sender reports = filter (λ r. r.sender == sender) reports

-- Each item has one report, and there is no other. (Give partitions and numbers any weights: both sides weigh the same.)
abbrev pub HaveReports : List Item → List Report → Type 0
HaveReports items reports =
    (f : ℕ → ℕ → ℕ) → sum_by (λ x. f x.partition x.number) items ≡ sum_by (λ r. f r.partition r.number) reports

-- An exchange was taken apart into these.
pub record ArePartsOf (x : Exchange) (parts : Parts) : Type 0 where
  pub core : parts.core ≡ x.core
  pub intake : parts.intake ≡ x.intake
  pub items : parts.held.items.items ≡ flat_map option_to_list x.items.items
  pub reports : parts.held.reports.items ≡ flat_map option_to_list x.reports.items

-- Of what was taken of the sender's lane, those first have reports: those that were handed to its ring, the one that is
-- held, and those that wait in the core. The one behind them, if there is one, is held.
pub record AccountedOf (i : ℕ) (parts : Parts) : Type 0 where
  pub appended : List Item
  pub in_order : taken_of parts.intake i ≡ appended ++ from_sender i parts.held.items.items
  pub reported : HaveReports appended
      (told_of parts.intake i ++ to_sender i parts.held.reports.items ++ waiting_of parts.core i)

-- So it is with each sender.
pub record IsAccounted (parts : Parts) : Type 0 where
  pub each : (i : ℕ) → i < length (lanes_of parts.intake) → AccountedOf i parts
