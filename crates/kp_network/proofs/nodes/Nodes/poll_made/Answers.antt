use Rattle.std.proofs.Common.{ℕ, ap, sym, subst, refl, ◌∙◌}
use Rattle.futures.specs.declared.task.Poll.{Poll}
use Rattle.kp_cluster.specs.Cluster.{with_answered}
use Rattle.kp_network.specs.News.{Makes, ready_of}
use Rattle.kp_network.proofs.LinkLemmas.{link_put, others_stay}
use Rattle.kp_network.specs.declared.link.Link.TheVariants.{Made}
use Rattle.kp_network.proofs.nodes.Nodes.poll_made.Goals as goal

pub returns-in-Pending-clause-makes : goal.returns-in-Pending-clause-makes
returns-in-Pending-clause-makes g c = Makes.still refl c.poll_links.ensures.still

pub returns-in-None-clause-makes : goal.returns-in-None-clause-makes
returns-in-None-clause-makes g c =
    subst (λ (polled : Poll (ℕ × g.row.S.Denot)). Makes c.args.now c.args.self.now c.lose.new.self (ready_of polled)) (sym c.yield_now.ensures.pending)
    (Makes.lost c.poll_links.new.links.items c.in-Ready.place c.poll_links.ensures.still c.in-Ready.ensures.dialed c.lose.ensures.others c.lose.ensures.lost c.lose.ensures.away)

pub returns-in-Some-clause-makes : goal.returns-in-Some-clause-makes
returns-in-Some-clause-makes g c =
    let links = c.poll_links.new.links.items in
    Makes.made links c.in-Ready.place c.in-Some.stream c.poll_links.ensures.still c.in-Ready.ensures.dialed (others_stay links c.in-Ready.place Made)
    (c.answered.ensures ∙ ap (with_answered c.in-Ready.place) c.connected.ensures)
    (link_put links c.in-Ready.place Made c.in-Ready.ensures.there)
