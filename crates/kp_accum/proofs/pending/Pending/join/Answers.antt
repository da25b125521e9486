use Rattle.kp_accum.proofs.QueueLemmas.{charge_small}
use Rattle.std.proofs.Common.{arith}
use Rattle.kp_accum.proofs.pending.Pending.join.Goals as goal

pub overflow_add-self : goal.overflow_add-self
overflow_add-self c = omega (arith, charge_small c.self.inside.items.items c.self.inside.size c.self.inside.charge c.args.charge c.self.invariant c.requires.charge_fits)
