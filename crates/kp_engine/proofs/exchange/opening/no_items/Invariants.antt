use Rattle.std.proofs.Common.{◌≡◌, ◌≤◌, vec_len}
use Rattle.std.specs.Prelude.{None, replicate, vec_capacity}
use Rattle.kp_engine.proofs.exchange.opening.no_items.Given as goal

abbrev pub invariant-loop : goal.invariant-loop
invariant-loop l = (l.places.items ≡ replicate l.counter None) × (vec_len l.places ≡ l.counter) × (l.count ≤ vec_capacity l.places)
