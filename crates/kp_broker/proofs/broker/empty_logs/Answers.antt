use Rattle.std.proofs.Common.{◌≡◌, ◌≤◌, ℕ, ◌∙◌, ap, replicate, arith}
use Rattle.kp_log.specs.Log.{empty}
use Rattle.kp_broker.proofs.broker.empty_logs.Goals as goal

pub loop-init : goal.loop-init
loop-init c = c.in_ok-logs.ensures.items

pub returns : goal.returns
returns c =
    let end : c.loop.counter ≤ c.args.partitions = c.loop.auto.counter-end in
    let past : c.args.partitions ≤ c.loop.counter = c.loop-test.false in
    let all : c.loop.counter ≡ c.args.partitions = omega (arith, end, past) in
    c.loop.invariant ∙ ap (λ (n : ℕ). replicate n empty) all
