use Rattle.std.proofs.Common.{sym, subst}
use Rattle.kp_cluster.specs.declared.action.Action.{Action}
use Rattle.kp_drive.specs.Doing.{Does}
use Rattle.kp_embed.specs.Connecting.{Loses}
use Rattle.kp_embed.specs.Producer.{Producer}
use Rattle.kp_drive.proofs.DoLemmas.{not_begun}
use Rattle.kp_drive.proofs.doing.obey.Goals as goal

pub returns-in-None-clause-does : goal.returns-in-None-clause-does
returns-in-None-clause-does g c =
    let p = c.args.host.now.embed in
    let q = c.close-in-None.new.embed in
    let lost = subst (λ (a : Producer). Loses c.in-Connect.node c.args.now a q) c.begin.ensures.producer c.close-in-None.ensures.lost in
    subst (λ (action : Action). Does c.args.now action p c.args.links.now.items q c.close-in-None.new.links.items) (sym c.in-Connect.is)
    (not_begun c.args.now c.in-Connect.node p q c.args.links.now.items c.begin.new.links.items c.close-in-None.new.links.items c.begin.ensures.same c.close-in-None.ensures.closed c.close-in-None.ensures.others lost)
