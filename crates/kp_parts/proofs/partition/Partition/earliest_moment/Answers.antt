use Rattle.std.proofs.Common.{◌∙◌, ◌+◌, ℕ, Option, List, map, ap}
use Rattle.kp_rules.specs.Due.{earliest}
use Rattle.kp_parts.specs.PartitionRooms.{sooner}
use Rattle.kp_rules.specs.Records.{Open, Partition}
use Rattle.kp_parts.proofs.MomentLemmas.{earliest-parts}
use Rattle.kp_parts.proofs.partition.Partition.earliest_moment.Goals as goal

pub returns : goal.returns
returns c =
    let config = c.args.config.now in
    let from = c.args.from in
    let opens = c.deref.ensures.value ∙ ap (λ (t : Partition). t.open_batches) c.self.view_is in
    let deadline = c.earliest_deadline-deadline.ensures ∙ ap (λ (os : List Open). earliest from (map (λ o. o.begun + config.delivery_timeout_ms) os)) opens in
    c.sooner.ensures
    ∙ ap (λ (z : Option ℕ). sooner z c.retry_moment.result) c.sooner-queued.ensures
    ∙ earliest-parts from config c.args.self.now c.earliest_deadline-deadline.result c.front_moment.result c.retry_moment.result deadline c.front_moment.ensures c.retry_moment.ensures
