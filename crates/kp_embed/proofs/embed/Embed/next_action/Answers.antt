use Rattle.std.proofs.Common.{sym, ap, ◌∙◌}
use Rattle.kp_cluster.specs.Actions.{told}
use Rattle.kp_embed.specs.Producer.{Producer}
use Rattle.kp_embed.proofs.embed.Embed.next_action.Goals as goal

pub returns-clause-told : goal.returns-clause-told
returns-clause-told c = ap (λ (p : Producer). told c.args.now p.cluster) (sym c.self.view_is) ∙ c.next_action.ensures
