use Rattle.std.proofs.Common.{◌≡◌, ◌<◌, ◌≤◌, ◌+◌, ◌-◌, get_or, length, List, min, subst, arith}
use Rattle.kp_send.specs.declared.latency.Place.{Place}
use Rattle.kp_send.specs.Latency.{IsRanked, rank_of, Table, width}
use Rattle.kp_send.proofs.LatencyLemmas.{no_place, ranked}
use Rattle.kp_send.proofs.latency.Latencies.percentile.Goals as goal

pub returns-then-rank-counted : goal.returns-then-rank-counted
returns-then-rank-counted c =
    let i = c.loop-place.place-index in
    let is = c.deref-place-items.ensures.value in
    let within = subst (λ (ps : List Place). i < length ps) is c.loop-place-test.true in
    let reached = subst (λ (ps : List Place). c.rank_of-rank.result ≤ c.loop-place.counted + (get_or ps i no_place).count) is c.if-rank-counted.true in
    let most = subst (λ (ps : List Place). c.greatest_of.result ≡ min ((get_or ps i no_place).least + width (get_or ps i no_place).least - 1) 18446744073709551615) is c.greatest_of.ensures in
    let p = get_or c.self.inside.places.items i no_place in
    let told : c.min.result ≡ min (p.least + width p.least - 1) c.self.inside.greatest = omega (arith, most, c.min.ensures) in
    let table : Table = record { places = c.self.inside.places.items; count = c.self.inside.count; sum = c.self.inside.sum; greatest = c.self.inside.greatest } in
    subst (λ (t : Table). IsRanked t (rank_of t.count c.args.percent) c.min.result) c.self.view_is
    (rw (← c.rank_of-rank.ensures.rank) (ranked table i c.rank_of-rank.result c.loop-place.counted c.min.result within c.loop-place.invariant.counted
    c.loop-place.invariant.less reached told))
