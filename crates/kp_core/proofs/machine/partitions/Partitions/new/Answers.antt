use Rattle.std.proofs.Common.{◌<◌, ◌^◌, vec_capacity, rules}
use Rattle.std.specs.Prelude.{if◌then◌else◌}
use Rattle.kp_rules.specs.Auditing.{unaudited}
use Rattle.kp_rules.specs.Partitions.{new_partition}
use Rattle.kp_core.proofs.ByLeaderLemmas.{first_by_leader}
use Rattle.kp_core.proofs.IdleLemmas.{new_idle}
use Rattle.kp_core.proofs.ListedLemmas.{first_listed}
use Rattle.kp_core.proofs.machine.partitions.Partitions.new.Goals as goal

pub invariant_of-result : goal.invariant_of-result
invariant_of-result c =
    let few : c.args.count < 2 ^ 32 = search rules in
    let t = if c.args.audits then new_partition c.args.producer_id else unaudited (new_partition c.args.producer_id) in
    let idle = new_idle c.args.audits c.args.producer_id in
    record {
      listed = first_listed c.args.count t c.in_ok-all.all.items c.in_ok-busy.busy.items (vec_capacity c.in_ok-busy.busy)
          idle few c.in_ok-all.ensures c.in_ok-busy.ensures.items c.in_ok-busy.ensures.exact;
      by_leader = first_by_leader c.args.count t c.in_ok-all.all.items c.in_ok-by_leader.by_leader.items (vec_capacity c.in_ok-by_leader.by_leader)
          idle c.in_ok-all.ensures c.in_ok-by_leader.ensures.items c.in_ok-by_leader.ensures.exact;
    }
