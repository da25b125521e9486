use Rattle.std.proofs.Common.{◌≡◌, ◌+◌, ◌++◌, ◌≤◌, length, vec_len}
use Rattle.std.specs.Prelude.{option_to_list, vec_capacity}
use Rattle.std.specs.List.{flat_map}
use Rattle.kp_engine.proofs.exchange.opening.gather_reports.Given as goal

abbrev pub invariant-loop-place : goal.invariant-loop-place
invariant-loop-place l =
    (l.into.items ++ flat_map option_to_list l.place-iterator.rest.items ≡ flat_map option_to_list l.fn.places.items)
    × (vec_len l.into + length l.place-iterator.rest.items ≤ vec_capacity l.into)
