use Rattle.std.proofs.Common.{ap}
use Rattle.kp_accum.specs.Budget.{Budget}
use Rattle.kp_accum.proofs.AccumLemmas.{sound-new}
use Rattle.kp_accum.proofs.accum.Accum.new.Goals as goal

pub invariant_of-result : goal.invariant_of-result
invariant_of-result c = rw c.loop.invariant (sound-new c.args.config c.new-2.result.limit c.loop.counter c.requires (ap (λ (b : Budget). b.limit) c.new-2.ensures))
