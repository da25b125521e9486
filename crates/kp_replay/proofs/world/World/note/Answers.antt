use Rattle.std.proofs.Common.{ap, length}
use Rattle.kp_replay.proofs.ShownLemmas.{kept-within}
use Rattle.kp_replay.proofs.world.World.note.Goals as goal

pub invariant_of-self : goal.invariant_of-self
invariant_of-self c = kept-within _ _ c.fetch_all.ensures.config c.fetch_all.ensures.senders (ap length c.fetch_all.ensures.partitions) c.self.invariant
