use Rattle.std.proofs.Common.{◌≡◌, ◌+◌, take, map}
use Rattle.kp_rules.specs.Due.{earliest}
use Rattle.kp_parts.proofs.partition.due.earliest_deadline.Given as goal

abbrev pub invariant-loop-open : goal.invariant-loop-open
invariant-loop-open l = l.earliest ≡ earliest l.from (map (λ o. o.begun + l.config.delivery_timeout_ms) (take l.open-index l.open_batches))
