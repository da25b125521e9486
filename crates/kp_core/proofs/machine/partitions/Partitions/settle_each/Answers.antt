use Rattle.std.proofs.Common.{ℕ, vec_capacity}
use Rattle.kp_rules.specs.Records.{Effect, Partition}
use Rattle.kp_core.specs.Hearing.{entry_at, settled_by}
use Rattle.kp_core.proofs.ByLeaderLemmas.{both_lists, kept_by_leader}
use Rattle.kp_core.proofs.IdleLemmas.{idle_settled}
use Rattle.kp_core.proofs.LeaderLemmas.{settled_leader}
use Rattle.kp_core.proofs.ListedLemmas.{kept_listed}
use Rattle.kp_core.proofs.machine.partitions.Partitions.settle_each.Goals as goal

pub keep_in_both-requires : goal.keep_in_both-requires
keep_in_both-requires c = both_lists c.self.invariant.listed c.self.invariant.by_leader

pub invariant_of-self : goal.invariant_of-self
invariant_of-self c =
    let rule : ℕ → Partition → Effect = λ p t. settled_by c.args.now c.args.correlation (entry_at p c.args.found.now) t in
    record {
      listed = kept_listed c.args.chosen.now rule c.settle_at.new.partitions.items c.deref.result.now
          c.keep_in_both.new.busy.items (vec_capacity c.keep_in_both.new.busy) (λ p. idle_settled c.args.now c.args.correlation (entry_at p c.args.found.now))
          c.settle_at.ensures.after c.deref.ensures.value c.keep_in_both.ensures.busy c.keep_in_both.ensures.room c.self.invariant.listed;
      by_leader = kept_by_leader c.args.chosen.now rule c.settle_at.new.partitions.items c.deref.result.now
          c.keep_in_both.new.by_leader.items (vec_capacity c.keep_in_both.new.by_leader) (λ p. idle_settled c.args.now c.args.correlation (entry_at p c.args.found.now))
          (λ p. settled_leader c.args.now c.args.correlation (entry_at p c.args.found.now))
          c.settle_at.ensures.after c.deref.ensures.value c.keep_in_both.ensures.by_leader c.keep_in_both.ensures.by_leader_room c.self.invariant.by_leader;
    }
