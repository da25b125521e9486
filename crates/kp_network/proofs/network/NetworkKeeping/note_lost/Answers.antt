use Rattle.std.proofs.Common.{ℕ, ap, subst}
use Rattle.kp_cluster.specs.Backoff.{Loses}
use Rattle.kp_network.specs.Links.{is_made}
use Rattle.kp_network.proofs.network.NetworkKeeping.note_lost.Goals as goal

pub returns-clause-lost : goal.returns-clause-lost
returns-clause-lost g c = subst (λ (now : ℕ). Loses c.args.node now c.args.self.now.nodes.cluster c.lose.new.self.cluster) c.read-now.ensures.shown c.lose.ensures.lost

pub returns-clause-away : goal.returns-clause-away
returns-clause-away g c = ap is_made c.lose.ensures.away

pub returns-clause-others : goal.returns-clause-others
returns-clause-others g c = c.lose.ensures.others
