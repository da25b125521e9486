use Rattle.std.proofs.Common.{◌⊎◌}
use Rattle.kp_embed.specs.Going.{Stays}
use Rattle.kp_embed.specs.Hearing.{GivesUp, Listens}
use Rattle.kp_embed.specs.Producer.{Producer}
use Rattle.kp_c.proofs.HeldLemmas.{makes, on_held}
use Rattle.kp_c.proofs.connections.kp_producer_feed.Goals as goal

pub returns-in-Ok-clause-listens : goal.returns-in-Ok-clause-listens
returns-in-Ok-clause-listens c = λ _. makes (λ (old new : Producer). Listens c.args.node c.args.now old c.args.bytes.now new) _ _ _ _ _ c.in-Some.ensures.some c.deref_mut.ensures.value c.put.ensures c.in-Ok.ensures.listens

pub returns-in-Err-clause-refused : goal.returns-in-Err-clause-refused
returns-in-Err-clause-refused c = λ _. on_held (λ (old new : Producer). Stays old new ⊎ GivesUp c.args.node c.args.now old new) _ _ _ _ _ c.in-Some.ensures.some c.deref_mut.ensures.value c.put.ensures c.in-Err.ensures.refused
