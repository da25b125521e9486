use Rattle.kp_parts.proofs.PartitionRoomLemmas.{rooms-marked}
use Rattle.kp_parts.proofs.partition.Partition.mark.Goals as goal

pub invariant_of-self : goal.invariant_of-self
invariant_of-self c =
    rw c.mark.ensures (rooms-marked c.self.inside.queue _ _ c.self.inside.ids.items c.self.inside.next_number c.self.inside.audit c.self.inside.queued c.mark_all.ensures.capacity c.self.invariant)
