use Rattle.std.proofs.Common.{◌≡◌, ◌-◌, min, arith}
use Rattle.kp_send.proofs.LatencyLemmas.{hundredths}
use Rattle.kp_send.proofs.latency.rank_of.Goals as goal

pub overflow_sub-count : goal.overflow_sub-count
overflow_sub-count c =
    let m = min c.args.percent 100 in
    let above : c.from-above.result ≡ 100 - m = omega (arith, c.from-above.ensures, c.min.ensures) in
    rw above ((hundredths c.args.count m (omega arith)).0)

pub returns-clause-rank : goal.returns-clause-rank
returns-clause-rank c =
    let m = min c.args.percent 100 in
    let above : c.from-above.result ≡ 100 - m = omega (arith, c.from-above.ensures, c.min.ensures) in
    let is = (hundredths c.args.count m (omega arith)).1 in
    omega (arith, rw (← above) at is, c.max.ensures)
