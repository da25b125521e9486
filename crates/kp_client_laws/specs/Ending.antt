-- What the end of a service says of it.
use Rattle.std.specs.Prelude.{◌≡◌, true, List, All}
use Rattle.kp_client.specs.Left.{items_left, reports_left}
use Rattle.kp_client.specs.declared.left.Left.{Left}
use Rattle.kp_engine.specs.declared.exchange.Exchange.{Exchange}
use Rattle.kp_lanes.specs.Sender.{finished_number}
use Rattle.kp_lanes.specs.declared.sender.Finished.{Finished}
use Rattle.kp_polls.specs.Laws.{ClosedToAll}
use Rattle.kp_rules.specs.Calls.{Call}
use Rattle.kp_rules.specs.Records.{Core}

-- By these calls an engine's core, which is this one now, was closed once nobody could send any more, and ended.
pub record WasClosed (calls : List Call) (core : Core) : Type 0 where
  pub first : Exchange
  pub last : Exchange
  pub closed : ClosedToAll first calls last
  pub is : last.core ≡ core
  pub ended : core.ended ≡ true

-- Both give back the same records and the same reports to each sender, in the same order.
abbrev pub GiveBackAlike : List Finished → Left → Left → Type 0
GiveBackAlike finished one other =
    All (λ f. (items_left one (finished_number f) ≡ items_left other (finished_number f))
    × (reports_left one (finished_number f) ≡ reports_left other (finished_number f))) finished
