use Rattle.std.proofs.Common.{rules, leb}
use Rattle.std.proofs.lemmas.Bool.{leb-true, leb-false}
use Rattle.std.proofs.lemmas.List.Sorted.{IsPartitionPoint-from_clause, IsPartitionedBy-leb}
use Rattle.kp_log.specs.declared.segments.Segment.{Segment}
use Rattle.kp_log.proofs.SegmentLemmas.{firsts_rise}
use Rattle.kp_log.proofs.segments.begun_by.Goals as goal

pub returns-clause-begun : goal.returns-clause-begun
returns-clause-begun c =
    let is_begun = λ (s : Segment). leb s.first c.args.offset in
    let point = IsPartitionPoint-from_clause is_begun c.args.full.now c.partition_point.result c.partition_point.ensures.partitioned (IsPartitionedBy-leb (λ (s : Segment). s.first) c.args.full.now c.args.offset (firsts_rise c.args.full.now 0 c.requires)) (λ a r f k. search rules) in
    (λ k d low high. leb-true _ _ (point.0 k d low high), λ k d low high. leb-false _ _ (point.1 k d low high))
