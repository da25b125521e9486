use Rattle.std.proofs.Common.{◌+◌, ◌≤◌, length, vec_len}
use Rattle.std.specs.Prelude.{vec_capacity}
use Rattle.kp_core.proofs.CallingLemmas.{IsPartMade}
use Rattle.kp_core.proofs.machine.Core.make_all.Given as goal

abbrev pub invariant-loop-call : goal.invariant-loop-call
invariant-loop-call l =
    IsPartMade l.fn.self l.fn.asked.items l.call-iterator.rest.items l.answers.items l.self
    × (vec_len l.answers + length l.call-iterator.rest.items ≤ vec_capacity l.answers)
