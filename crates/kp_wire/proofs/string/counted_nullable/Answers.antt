use Rattle.std.proofs.Common.{ℕ, List, Bor, arith}
use Rattle.std.specs.Prelude.{option_map}
use Rattle.kp_wire.specs.Strings.{nullable_string}
use Rattle.kp_wire.proofs.TakeLemmas.{counted}
use Rattle.kp_wire.proofs.StringLemmas.{nullable_string_exact}
use Rattle.kp_wire.proofs.string.counted_nullable.Goals as goal

pub overflow_sub-result : goal.overflow_sub-result
overflow_sub-result c = (counted (option_map (λ (s : Bor (List ℕ)). s.now)) nullable_string nullable_string_exact c.args.bytes.now c.in_ok-text.text c.in_ok-text.rest.now (λ i. omega (arith, c.type_inv.bytes i)) c.in_ok-text.ensures).0

pub returns : goal.returns
returns c =
    let r = counted (option_map (λ (s : Bor (List ℕ)). s.now)) nullable_string nullable_string_exact c.args.bytes.now c.in_ok-text.text c.in_ok-text.rest.now (λ i. omega (arith, c.type_inv.bytes i)) c.in_ok-text.ensures in
    (r.1, r.2)
