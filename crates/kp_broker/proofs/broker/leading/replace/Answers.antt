use Rattle.std.proofs.Common.{◌≡◌, ℕ, ◌+◌, List, get_or, set, ap, sym, ◌∙◌}
use Rattle.kp_broker.specs.Broker.{leader_after}
use Rattle.kp_broker.proofs.LeaderLemmas.{next_of, one_more, replaced, kept, some_done}
use Rattle.kp_broker.proofs.broker.leading.replace.Goals as goal
use Rattle.kp_broker.proofs.broker.leading.replace.Goals.{then-leader-node, else-leader-node}

pub loop-leader-preserved : goal.loop-leader-preserved
loop-leader-preserved c =
    let f = leader_after c.args.node c.args.to in
    let first = c.args.leaders.now in
    let now = c.loop-leader.leaders in
    let i = c.loop-leader.leader-index in
    let here : get_or now i 0 ≡ get_or first i 0 = ap (λ (xs : List ℕ). get_or xs i 0) c.loop-leader.invariant ∙ next_of f first i 0 c.loop-leader-test.true in
    let next : set now i (f (get_or now i 0)) ≡ some_done f (i + 1) first =
    (λ k. set (c.loop-leader.invariant k) i (f (here k))) ∙ one_more f first i 0 c.loop-leader-test.true in
    elim c.if-leader-node.branch [
      | then-leader-node w ↦ w.leaders-is ∙ ap (set now i) (sym (replaced c.args.node c.args.to (get_or now i 0) w.if-leader-node.true)) ∙ next
      | else-leader-node w ↦ w.leaders-is ∙ ap (set now i) (sym (kept c.args.node c.args.to (get_or now i 0) w.if-leader-node.false)) ∙ next
    ]
