use Rattle.std.proofs.Common.{refl, ap, ◌∙◌, subst}
use Rattle.kp_embed.specs.Producer.{Producer}
use Rattle.kp_embed.proofs.ActLemmas.{made}
use Rattle.kp_embed.proofs.TickLemmas.{TicksTo, ticks_first, ticks_more}
use Rattle.kp_embed.proofs.embed.Embed.tick.Goals as goal

pub loop-node-init : goal.loop-node-init
loop-node-init c =
    let i = c.self.inside in (
      subst (λ (a : Producer). TicksTo c.args.now 0 a c.heed_opening.new.self) c.self.view_is
          (ticks_first c.args.now (made i.is_failed i.is_closed i.config.producer i.names i.core i.counts.items i.lines i.cluster) (made i.is_failed i.is_closed i.config.producer i.names i.core i.counts.items i.lines c.heed.new.self) c.heed_opening.new.self refl refl refl refl refl
          c.heed_opening.ensures.acts c.heed_opening.ensures.lines c.heed_opening.ensures.unopened),
      c.heed_opening.ensures.still ∙ ap (λ (p : Producer). p.is_closed) c.self.view_is,
    )

pub loop-node-preserved : goal.loop-node-preserved
loop-node-preserved c =
    (ticks_more c.args.now c.loop-node.node c.args.self.now c.loop-node.self c.tick_node.new.self c.loop-node.invariant.0 c.tick_node.ensures.ticks c.tick_node.ensures.unopened, c.tick_node.ensures.still ∙ c.loop-node.invariant.1)
