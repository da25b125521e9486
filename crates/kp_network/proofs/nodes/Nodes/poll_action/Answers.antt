use Rattle.std.proofs.Common.{ℕ, Some, None, refl, sym, subst}
use Rattle.futures.specs.declared.task.Poll.{Poll}
use Rattle.kp_network.specs.News.{Acts, ready_of}
use Rattle.kp_network.proofs.nodes.Nodes.poll_action.Goals as goal

pub returns-in_default-clause-acts : goal.returns-in_default-clause-acts
returns-in_default-clause-acts g c = Acts.nothing c.in_default.ensures refl

pub returns-in-Some-obey-clause-acts : goal.returns-in-Some-obey-clause-acts
returns-in-Some-obey-clause-acts g c = Acts.something _ c.in-Some.action (Some c.in-Some-obey.node) c.in-Some.ensures refl c.in-Some-obey.ensures

pub returns-in-None-clause-acts : goal.returns-in-None-clause-acts
returns-in-None-clause-acts g c =
    subst (λ (polled : Poll ℕ). Acts c.args.now c.args.self.now c.obey.new.self (ready_of polled)) (sym c.yield_now.ensures.pending)
    (Acts.something _ c.in-Some.action None c.in-Some.ensures refl c.in-None.ensures)
