use Rattle.std.proofs.Common.{arith}
use Rattle.kp_wire.specs.Varint.{varlong}
use Rattle.kp_wire.proofs.TakeLemmas.{took_found, took_only, took_number}
use Rattle.kp_wire.proofs.VarintLemmas.{varlong_exact}
use Rattle.kp_wire.proofs.varint.take_varlong.Goals as goal

pub returns-clause-found : goal.returns-clause-found
returns-clause-found c = took_found (λ z. z) varlong varlong_exact c.args.bytes.now _ (λ i. omega (arith, c.type_inv.bytes i)) c.counted_varlong.ensures

pub returns-clause-only : goal.returns-clause-only
returns-clause-only c = λ z rest fits e. took_number _ z _ (took_only (λ x. x) varlong varlong_exact c.args.bytes.now _ z rest e fits c.counted_varlong.ensures)
