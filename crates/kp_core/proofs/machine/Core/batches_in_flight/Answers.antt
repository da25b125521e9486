use Rattle.std.proofs.Common.{◌≡◌, ◌∙◌, ◌<◌, List, length, get_or, ap, subst, arith}
use Rattle.std.proofs.lemmas.List.Sums.{sum_by_more}
use Rattle.kp_rules.specs.Counts.{in_flight}
use Rattle.kp_rules.specs.Records.{Core, Partition}
use Rattle.kp_core.proofs.machine.Core.batches_in_flight.Goals as goal

pub loop-partition-preserved : goal.loop-partition-preserved
loop-partition-preserved c =
    let ts = c.args.self.now.partitions in
    let i = c.loop-partition.partition-index in
    let t = c.partition-item.result in
    let all : c.all-partition-items.result.now ≡ ts = c.all-partition-items.ensures ∙ ap (λ (x : Core). x.partitions) c.self.view_is in
    let there : i < length ts = subst (λ (us : List Partition). i < length us) all c.loop-partition-test.true in
    let its : t ≡ get_or ts i t = c.partition-item.is ∙ ap (λ (us : List Partition). get_or us i t) all in
    omega (arith, sum_by_more in_flight ts i t there, ap in_flight its)
