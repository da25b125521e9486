use Rattle.std.proofs.Common.{◌≡◌, ◌∙◌, ◌<◌, length, ap, rules}
use Rattle.std.proofs.lemmas.List.{get_or_default}
use Rattle.kp_rules.specs.Partitions.{new_partition, partition_at}
use Rattle.kp_rules.specs.Records.{Partition}
use Rattle.kp_core.specs.Busy.{is_busy}
use Rattle.kp_core.proofs.ByLeaderLemmas.{set_by_leader}
use Rattle.kp_core.proofs.IdleLemmas.{renewed_if}
use Rattle.kp_core.proofs.LeaderLemmas.{renewed_leader}
use Rattle.kp_core.proofs.ListedLemmas.{set_listed}
use Rattle.kp_core.proofs.machine.partitions.Partitions.give_id.Goals as goal

pub invariant_of-self : goal.invariant_of-self
invariant_of-self c =
    let ts = c.self.inside.all.items in
    let there : c.args.place < length ts = search rules in
    let old : c.index_mut.result.now ≡ partition_at c.args.place ts =
    c.index_mut.ensures.value ∙ get_or_default ts c.args.place c.index_mut.result.now (new_partition 0) there in
    let busy = renewed_if c.go_on_under.result c.args.id c.index_mut.result.now c.go_on_under.new.self c.go_on_under.ensures.ok c.go_on_under.ensures.err ∙ ap is_busy old in
    let leader = renewed_leader c.go_on_under.result c.args.id c.index_mut.result.now c.go_on_under.new.self c.go_on_under.ensures.ok c.go_on_under.ensures.err
    ∙ ap (λ (t : Partition). t.leader) old in
    record {
      listed = set_listed c.args.place c.go_on_under.new.self busy c.self.invariant.listed;
      by_leader = set_by_leader c.args.place c.go_on_under.new.self busy (λ is. leader) c.self.invariant.by_leader;
    }
