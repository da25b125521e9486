use Rattle.std.proofs.Common.{refl, subst}
use Rattle.kp_embed.specs.Ending.{Calls}
use Rattle.kp_embed.specs.Producer.{Producer}
use Rattle.kp_embed.proofs.ActLemmas.{calls_made, made}
use Rattle.kp_embed.proofs.embed.Embed.next_report.Goals as goal
use Rattle.kp_rules.specs.Calls.{Fetch}

pub returns-clause-calls : goal.returns-clause-calls
returns-clause-calls c =
    let i = c.self.inside in
    subst (λ (a : Producer). Calls (Fetch 0 c.next_report.result) a (made i.is_failed i.is_closed i.config.producer i.names c.next_report.new.core i.counts.items i.lines i.cluster)) c.self.view_is
    (calls_made (made i.is_failed i.is_closed i.config.producer i.names i.core i.counts.items i.lines i.cluster) (made i.is_failed i.is_closed i.config.producer i.names c.next_report.new.core i.counts.items i.lines i.cluster) (Fetch 0 c.next_report.result) refl refl c.next_report.ensures refl refl tt)
