use Rattle.std.proofs.Common.{refl}
use Rattle.kp_core.specs.Keeping.{seen_of}
use Rattle.kp_rules.specs.Flush.{flush_step}
use Rattle.kp_core.proofs.KeepingLemmas.{quiet_kept}
use Rattle.kp_core.proofs.LeavingLemmas.{flushed_left}
use Rattle.kp_core.proofs.machine.Core.mark_all.Goals as goal

pub invariant_of-self : goal.invariant_of-self
unfolding flush_step
invariant_of-self c = rw c.mark_each.ensures (quiet_kept c.self.invariant (flushed_left (seen_of c.self.inside) c.self.invariant.order))

pub returns : goal.returns
unfolding flush_step
returns c = rw (← c.self.view_is, c.mark_each.ensures) refl
