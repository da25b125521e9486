use Rattle.std.proofs.Common.{ℕ, List, Bor, arith}
use Rattle.kp_wire.specs.Strings.{string}
use Rattle.kp_wire.proofs.TakeLemmas.{took_found, took_only}
use Rattle.kp_wire.proofs.StringLemmas.{string_exact}
use Rattle.kp_wire.proofs.string.take_string.Goals as goal

pub returns-clause-found : goal.returns-clause-found
returns-clause-found c = took_found (λ (s : Bor (List ℕ)). s.now) string string_exact c.args.bytes.now _ (λ i. omega (arith, c.type_inv.bytes i)) c.counted_string.ensures

pub returns-clause-only : goal.returns-clause-only
returns-clause-only c = λ s rest fits e. took_only (λ (s : Bor (List ℕ)). s.now) string string_exact c.args.bytes.now _ s rest e fits c.counted_string.ensures
