use Rattle.kp_rules.specs.HandingOver.{send_in}
use Rattle.kp_core.proofs.ByLeaderLemmas.{changed_by_leader}
use Rattle.kp_core.proofs.IdleLemmas.{sent_busy}
use Rattle.kp_core.proofs.LeaderLemmas.{sent_leader}
use Rattle.kp_core.proofs.ListedLemmas.{changed_listed}
use Rattle.kp_core.proofs.machine.partitions.Partitions.send_each.Goals as goal

pub invariant_of-self : goal.invariant_of-self
invariant_of-self c =
    let us = c.send_at.new.partitions.items in
    record {
      listed = changed_listed c.args.chosen.now (λ p t. send_in c.args.correlation t) us c.send_at.ensures (λ p. sent_busy c.args.correlation) c.self.invariant.listed;
      by_leader = changed_by_leader c.args.chosen.now (λ p t. send_in c.args.correlation t) us c.send_at.ensures
          (λ p. sent_busy c.args.correlation) (λ p. sent_leader c.args.correlation) c.self.invariant.by_leader;
    }
