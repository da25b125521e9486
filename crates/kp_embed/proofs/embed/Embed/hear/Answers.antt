use Rattle.std.proofs.Common.{◌∙◌, sym, ap, subst}
use Rattle.kp_cluster.specs.Cluster.{with_answered}
use Rattle.kp_embed.specs.Hearing.{HearsOver}
use Rattle.kp_embed.specs.Producer.{Producer, with_cluster}
use Rattle.kp_embed.proofs.HearLemmas.{hears_answered}
use Rattle.kp_embed.proofs.embed.Embed.hear.Goals as goal

pub returns-in-Ok-clause-heard : goal.returns-in-Ok-clause-heard
returns-in-Ok-clause-heard c =
    let node = c.args.node in
    let heard = c.hear_content.new.self in
    let line = c.hear_content.new.line in
    let cluster = c.answered.new.self in
    subst (λ (p : Producer). HearsOver c.args.now c.args.self.now c.args.line.now c.args.content.now (with_cluster cluster p) line) (sym c.self.view_is)
    (hears_answered node c.args.now c.args.self.now heard c.args.line.now line c.args.content.now cluster
    (c.answered.ensures ∙ ap (λ (p : Producer). with_answered node p.cluster) c.self.view_is) c.in-Ok.ensures.heard)
