use Rattle.std.proofs.Common.{ℕ, List, Bor, arith}
use Rattle.kp_wire.specs.Strings.{string}
use Rattle.kp_wire.proofs.TakeLemmas.{counted}
use Rattle.kp_wire.proofs.StringLemmas.{string_exact}
use Rattle.kp_wire.proofs.string.counted_string.Goals as goal

pub overflow_sub-result : goal.overflow_sub-result
overflow_sub-result c = (counted (λ (s : Bor (List ℕ)). s.now) string string_exact c.args.bytes.now c.in_ok-text.text c.in_ok-text.rest.now (λ i. omega (arith, c.type_inv.bytes i)) c.in_ok-text.ensures).0

pub returns : goal.returns
returns c =
    let r = counted (λ (s : Bor (List ℕ)). s.now) string string_exact c.args.bytes.now c.in_ok-text.text c.in_ok-text.rest.now (λ i. omega (arith, c.type_inv.bytes i)) c.in_ok-text.ensures in
    (r.1, r.2)
