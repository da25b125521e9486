-- What an engine's parts account for, with nothing left to choose: each record that was taken has one report, or is held.
use Rattle.std.specs.Prelude.{◌≡◌, ℕ, ◌-◌, ◌<◌, List, [], ◌++◌, length, take}
use Rattle.kp_accum.specs.declared.item.Item.{Item}
use Rattle.kp_engine.specs.Agreement.{waiting_of}
use Rattle.kp_engine.specs.Parts.{to_sender, HaveReports}
use Rattle.kp_engine.specs.Serving.{from_sender}
use Rattle.kp_engine.specs.declared.parts.Parts.{Parts}
use Rattle.kp_lanes.specs.Intake.{lanes_of, taken_of, told_of}

-- of what was taken of the sender's lane, all but what is held
abbrev pub appended_of : ℕ → Parts → List Item
appended_of i parts =
    take (length (taken_of parts.intake i) - length (from_sender i parts.held.items.items)) (taken_of parts.intake i)

-- Behind these comes what is held, and each of them has one report.
pub record SenderAccounted (i : ℕ) (parts : Parts) : Type 0 where
  pub in_order : taken_of parts.intake i ≡ appended_of i parts ++ from_sender i parts.held.items.items
  pub reported : HaveReports (appended_of i parts)
      (told_of parts.intake i ++ to_sender i parts.held.reports.items ++ waiting_of parts.core i)

pub record AllAccounted (parts : Parts) : Type 0 where
  pub each : (i : ℕ) → i < length (lanes_of parts.intake) → SenderAccounted i parts

-- Nothing is held, and no report waits in the core: each was handed to its sender's ring.
pub record HoldsNothing (parts : Parts) : Type 0 where
  pub no_item : parts.held.items.items ≡ []
  pub no_report : parts.held.reports.items ≡ []
  pub none_waits : (i : ℕ) → i < length (lanes_of parts.intake) → waiting_of parts.core i ≡ []
