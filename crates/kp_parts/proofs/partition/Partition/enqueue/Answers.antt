use Rattle.std.proofs.Common.{◌≡◌, rules}
use Rattle.kp_accum.specs.Queue.{with_item}
use Rattle.kp_parts.proofs.HandingLemmas.{audit-room, rooms-with_item}
use Rattle.kp_parts.proofs.partition.Partition.enqueue.Goals as goal

pub reserve_audit-requires : goal.reserve_audit-requires
reserve_audit-requires c = audit-room c.self.inside.queued c.self.inside.next_number c.self.inside.audit c.self.invariant.audit

pub invariant_of-self-2 : goal.invariant_of-self-2
invariant_of-self-2 c =
    let queue : c.append.new.self ≡ with_item c.args.config.now c.args.item c.self.inside.queue = c.in_ok-append.ensures.ok in
    rooms-with_item c.args.config.now c.args.item c.self.inside.queue c.append.new.self _ c.self.inside.ids.items c.self.inside.next_number c.self.inside.audit c.reserve_audit.new.audit c.self.inside.queued
    queue c.reserve_audit.ensures.runs (search rules) c.self.invariant
