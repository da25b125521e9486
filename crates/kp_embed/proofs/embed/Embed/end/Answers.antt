use Rattle.std.proofs.Common.{true, refl, subst}
use Rattle.kp_embed.specs.Ending.{Calls}
use Rattle.kp_embed.specs.Producer.{Producer}
use Rattle.kp_embed.proofs.ActLemmas.{calls_made, made}
use Rattle.kp_embed.proofs.embed.Embed.end.Goals as goal
use Rattle.kp_rules.specs.Calls.{End}

pub returns-clause-calls : goal.returns-clause-calls
returns-clause-calls c =
    let i = c.self.inside in
    subst (λ (a : Producer). Calls (End c.end.result) a (made i.is_failed true i.config.producer i.names c.end.new.core i.counts.items i.lines i.cluster)) c.self.view_is
    (calls_made (made i.is_failed i.is_closed i.config.producer i.names i.core i.counts.items i.lines i.cluster) (made i.is_failed true i.config.producer i.names c.end.new.core i.counts.items i.lines i.cluster) (End c.end.result) refl refl c.end.ensures refl refl tt)
