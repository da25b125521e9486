use Rattle.std.proofs.Common.{[], refl, subst}
use Rattle.kp_embed.specs.Going.{Acts}
use Rattle.kp_embed.specs.Producer.{Producer}
use Rattle.kp_embed.proofs.ActLemmas.{acts_idly, made}
use Rattle.kp_embed.proofs.embed.Embed.follow.Goals as goal

pub returns-in-Err-clause-acts : goal.returns-in-Err-clause-acts
returns-in-Err-clause-acts c =
    let i = c.self.inside in
    subst (λ (a : Producer). Acts a [] (made i.is_failed i.is_closed i.config.producer i.names i.core i.counts.items i.lines c.refuse_chart.new.self)) c.self.view_is (acts_idly (made i.is_failed i.is_closed i.config.producer i.names i.core i.counts.items i.lines i.cluster) (made i.is_failed i.is_closed i.config.producer i.names i.core i.counts.items i.lines c.refuse_chart.new.self) refl refl refl refl)
