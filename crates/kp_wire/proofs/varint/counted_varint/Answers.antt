use Rattle.std.proofs.Common.{arith}
use Rattle.std.specs.Prelude.{FitsSigned}
use Rattle.std.specs.Int.{w32}
use Rattle.std.proofs.lemmas.Int.{to_z-of_z}
use Rattle.kp_wire.specs.Varint.{varint}
use Rattle.kp_wire.proofs.TakeLemmas.{counted}
use Rattle.kp_wire.proofs.VarintLemmas.{varint_exact}
use Rattle.kp_wire.proofs.varint.counted_varint.Goals as goal

pub overflow_sub-result : goal.overflow_sub-result
overflow_sub-result c = (counted (λ z. z) varint varint_exact c.args.bytes.now c.in_ok-n.n c.in_ok-n.rest.now (λ i. omega (arith, c.type_inv.bytes i)) c.in_ok-n.ensures).0

pub returns : goal.returns
returns c =
    let t = varint_exact.takes c.args.bytes.now (c.in_ok-n.n, c.in_ok-n.rest.now) (λ i. omega (arith, c.type_inv.bytes i)) c.in_ok-n.ensures in
    let fits : FitsSigned w32 c.in_ok-n.n = t.1 in
    let r = counted (λ z. z) varint varint_exact c.args.bytes.now c.in_ok-n.n c.in_ok-n.rest.now (λ i. omega (arith, c.type_inv.bytes i)) c.in_ok-n.ensures in
    rw to_z-of_z (r.1, r.2)
