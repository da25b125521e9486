use Rattle.std.proofs.Common.{◌≡◌, pos, get_or, arith, rules, to_z, of_z}
use Rattle.std.specs.Prelude.{FitsSigned}
use Rattle.std.specs.Int.{w32}
use Rattle.kp_broker.proofs.FittingLemmas.{node_fits}
use Rattle.kp_broker.proofs.broker.describing.describe_node.Goals as goal

pub returns-clause-fits : goal.returns-clause-fits
returns-clause-fits c =
    let port = get_or c.args.ports.now c.args.node 0 in
    let small = c.type_inv.ports c.args.node in
    let fits : FitsSigned w32 (pos port) = search rules in
    let node : to_z w32 c.args.node ≡ pos c.args.node = search rules in
    let same : to_z w32 (of_z w32 c.from.result) ≡ pos port = search rules in
    rw (node, same, c.in_ok-from_str.ensures) (node_fits c.args.ports.now c.args.node (omega (arith, c.requires.there, c.requires.few)) fits)
