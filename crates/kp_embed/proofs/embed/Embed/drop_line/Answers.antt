use Rattle.std.proofs.Common.{refl, subst}
use Rattle.kp_embed.specs.Connecting.{Loses}
use Rattle.kp_embed.specs.Producer.{Producer}
use Rattle.kp_embed.proofs.ActLemmas.{loses_made, made}
use Rattle.kp_embed.proofs.embed.Embed.drop_line.Goals as goal

pub returns-clause-loses : goal.returns-clause-loses
returns-clause-loses c =
    let i = c.self.inside in
    subst (λ (a : Producer). Loses c.args.node c.args.now a (made i.is_failed i.is_closed i.config.producer i.names c.on_disconnect.new.core i.counts.items c.take-line.new.self i.cluster)) c.self.view_is
    (loses_made (made i.is_failed i.is_closed i.config.producer i.names i.core i.counts.items i.lines i.cluster) (made i.is_failed i.is_closed i.config.producer i.names c.on_disconnect.new.core i.counts.items c.take-line.new.self i.cluster) c.args.node c.args.now refl refl c.on_disconnect.ensures refl c.take-line.ensures.left)
