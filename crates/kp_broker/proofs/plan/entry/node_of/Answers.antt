use Rattle.std.proofs.Common.{sym, ◌∙◌, arith}
use Rattle.std.proofs.lemmas.Fmt.{decimal_injective}
use Rattle.kp_broker.proofs.plan.entry.node_of.Goals as goal

pub returns-then-node-gt-MAX_NODE : goal.returns-then-node-gt-MAX_NODE
returns-then-node-gt-MAX_NODE c = λ node allowed is.
    let same = decimal_injective c.in_ok-node.node node c.in_ok-node.ensures.0 (omega (arith, allowed)) (sym c.in_ok-node.ensures.1 ∙ is) in
    absurd (omega (arith, allowed, c.if-node-gt-MAX_NODE.true))
