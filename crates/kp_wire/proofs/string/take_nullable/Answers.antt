use Rattle.std.proofs.Common.{ℕ, List, Bor, arith}
use Rattle.std.specs.Prelude.{option_map}
use Rattle.kp_wire.specs.Strings.{nullable_string}
use Rattle.kp_wire.proofs.TakeLemmas.{took_found, took_only}
use Rattle.kp_wire.proofs.StringLemmas.{nullable_string_exact}
use Rattle.kp_wire.proofs.string.take_nullable.Goals as goal

pub returns-clause-found : goal.returns-clause-found
returns-clause-found c = took_found (option_map (λ (s : Bor (List ℕ)). s.now)) nullable_string nullable_string_exact c.args.bytes.now _ (λ i. omega (arith, c.type_inv.bytes i)) c.counted_nullable.ensures

pub returns-clause-only : goal.returns-clause-only
returns-clause-only c = λ s rest fits e. took_only (option_map (λ (s : Bor (List ℕ)). s.now)) nullable_string nullable_string_exact c.args.bytes.now _ s rest e fits c.counted_nullable.ensures
