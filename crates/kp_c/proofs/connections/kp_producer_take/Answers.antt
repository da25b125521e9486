use Rattle.std.proofs.Common.{take}
use Rattle.kp_embed.specs.Producer.{Producer}
use Rattle.kp_embed.specs.Taking.{CarriesNone, CarriesOut}
use Rattle.kp_c.proofs.HeldLemmas.{makes, on_held}
use Rattle.kp_c.proofs.connections.kp_producer_take.Goals as goal

pub returns-in-Ok-clause-takes : goal.returns-in-Ok-clause-takes
returns-in-Ok-clause-takes c = λ _. makes (λ (old new : Producer). CarriesOut c.args.node c.args.now old (take c.in-Ok.taken c.take_into-taken.new.room) new) _ _ _ _ _ c.in-Some.ensures.some c.deref_mut.ensures.value c.put.ensures c.in-Ok.ensures.takes

pub returns-in-Err-clause-refused : goal.returns-in-Err-clause-refused
returns-in-Err-clause-refused c = λ _. on_held (CarriesNone c.args.node c.args.now) _ _ _ _ _ c.in-Some.ensures.some c.deref_mut.ensures.value c.put.ensures c.in-Err.ensures.refused
