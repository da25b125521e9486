use Rattle.std.proofs.Common.{refl, subst}
use Rattle.kp_embed.specs.Producer.{Producer}
use Rattle.kp_embed.specs.Ticking.{TicksOne}
use Rattle.kp_embed.proofs.ActLemmas.{made}
use Rattle.kp_embed.proofs.TickLemmas.{ticks_late, ticks_quiet}
use Rattle.kp_embed.proofs.embed.Embed.tick_node.Goals as goal

pub returns-then-ticked-clause-ticks : goal.returns-then-ticked-clause-ticks
returns-then-ticked-clause-ticks c =
    let i = c.self.inside in
    subst (λ (a : Producer). TicksOne c.args.node c.args.now a c.give_up.new.self) c.self.view_is
    (ticks_late (made i.is_failed i.is_closed i.config.producer i.names i.core i.counts.items i.lines i.cluster) (made i.is_failed i.is_closed i.config.producer i.names c.tick-ticked.new.core i.counts.items i.lines i.cluster) c.give_up.new.self c.args.node c.args.now
    c.tick-ticked.result c.if-ticked.true refl refl c.tick-ticked.ensures refl refl c.give_up.ensures.loses)

pub returns-else-ticked-clause-ticks : goal.returns-else-ticked-clause-ticks
returns-else-ticked-clause-ticks c =
    let i = c.self.inside in
    subst (λ (a : Producer). TicksOne c.args.node c.args.now a (made i.is_failed i.is_closed i.config.producer i.names c.tick-ticked.new.core i.counts.items i.lines i.cluster)) c.self.view_is
    (ticks_quiet (made i.is_failed i.is_closed i.config.producer i.names i.core i.counts.items i.lines i.cluster) (made i.is_failed i.is_closed i.config.producer i.names c.tick-ticked.new.core i.counts.items i.lines i.cluster) c.args.node c.args.now
    c.tick-ticked.result c.if-ticked.false refl refl c.tick-ticked.ensures refl refl)
