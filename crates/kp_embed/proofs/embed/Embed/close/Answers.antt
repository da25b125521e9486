use Rattle.std.proofs.Common.{true, refl, subst}
use Rattle.kp_embed.specs.Ending.{Calls}
use Rattle.kp_embed.specs.Producer.{Producer}
use Rattle.kp_embed.proofs.ActLemmas.{calls_made, made}
use Rattle.kp_embed.proofs.embed.Embed.close.Goals as goal
use Rattle.kp_rules.specs.Calls.{Close}

pub returns-clause-calls : goal.returns-clause-calls
returns-clause-calls c =
    let i = c.self.inside in
    subst (λ (a : Producer). Calls Close a (made i.is_failed true i.config.producer i.names c.close.new.core i.counts.items i.lines i.cluster)) c.self.view_is
    (calls_made (made i.is_failed i.is_closed i.config.producer i.names i.core i.counts.items i.lines i.cluster) (made i.is_failed true i.config.producer i.names c.close.new.core i.counts.items i.lines i.cluster) Close refl refl c.close.ensures refl refl tt)
