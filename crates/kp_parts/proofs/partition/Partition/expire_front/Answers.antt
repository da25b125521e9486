use Rattle.std.proofs.Common.{◌≤◌, ap, length, List, arith}
use Rattle.kp_accum.specs.Queue.{Pending}
use Rattle.kp_rules.specs.Partitions.{items_queued}
use Rattle.kp_parts.proofs.PartitionRoomLemmas.{rooms-fewer}
use Rattle.kp_parts.proofs.TellingLemmas.{behind_fewer}
use Rattle.kp_parts.proofs.partition.Partition.expire_front.Goals as goal

pub invariant_of-self : goal.invariant_of-self
invariant_of-self c =
    let t = c.self.inside in
    let made = c.expire_late-self-inside in
    let left = ap (λ (z : List Pending). length (items_queued z)) made.ensures.queue in
    let fewer : made.result ≤ t.queued = omega (arith, made.ensures.left, left, behind_fewer c.args.config.now c.args.now t.queue, c.self.invariant.queued) in
    rooms-fewer t.queue made.new.queue _ _ t.ids.items t.next_number t.audit t.queued made.result (omega arith) made.ensures.left fewer c.self.invariant
