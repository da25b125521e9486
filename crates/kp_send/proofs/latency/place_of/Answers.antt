use Rattle.std.proofs.Common.{◌≡◌, ◌-◌, ◌<◌, length, true, nat_le, arith, rules, subst, sym, Option}
use Rattle.std.specs.Prelude.{IfSome}
use Rattle.std.proofs.lemmas.List.Sorted.{IsPartitionPoint-from_clause}
use Rattle.std.proofs.lemmas.Option.{slice_get-get_or}
use Rattle.kp_send.specs.declared.latency.Place.{Place}
use Rattle.kp_send.specs.Latency.{is_in}
use Rattle.kp_send.proofs.LatencyLemmas.{begins_below, belongs_there, no_place, some_begins}
use Rattle.kp_send.proofs.latency.place_of.Goals as goal

pub overflow_sub-result : goal.overflow_sub-result
overflow_sub-result c =
    let ps = c.args.places.now in
    let v = c.args.latency in
    let found = IsPartitionPoint-from_clause (λ (p : Place). nat_le p.least v) ps c.partition_point.result c.partition_point.ensures.partitioned
    (begins_below v ps c.requires) (λ a r f called. search rules) in
    some_begins v ps c.partition_point.result c.ranges.latency.fits c.requires c.partition_point.ensures.bound found

pub returns-clause-there : goal.returns-clause-there
returns-clause-there c =
    let ps = c.args.places.now in
    let v = c.args.latency in
    let n = c.partition_point.result in
    let found = IsPartitionPoint-from_clause (λ (p : Place). nat_le p.least v) ps n c.partition_point.ensures.partitioned
    (begins_below v ps c.requires) (λ a r f called. search rules) in
    let some = some_begins v ps n c.ranges.latency.fits c.requires c.partition_point.ensures.bound found in
    let within : n - 1 < length ps = omega (arith, some, c.partition_point.ensures.bound) in
    subst (λ (o : Option Place). IfSome o (λ (p : Place). is_in v p ≡ true)) (sym (slice_get-get_or ps (n - 1) no_place within))
    (belongs_there v ps n c.ranges.latency.fits c.requires c.partition_point.ensures.bound found)
