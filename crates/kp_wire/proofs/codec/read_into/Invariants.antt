use Rattle.std.proofs.Common.{◌≡◌, ◌-◌}
use Rattle.kp_wire.specs.Codec.{read_many}
use Rattle.kp_wire.proofs.ManyLemmas.{with_front}
use Rattle.kp_wire.proofs.codec.read_into.Given as goal

abbrev pub invariant-loop : goal.invariant-loop
invariant-loop g l =
    with_front l.items.items (read_many (g.T.ReadField.reads l.after) (l.count - l.counter) l.rest)
    ≡ with_front l.initial.items.items (read_many (g.T.ReadField.reads l.after) l.count l.bytes)
