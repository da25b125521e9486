use Rattle.std.proofs.Common.{◌≡◌, ◌≤◌, length}
use Rattle.kp_embed.specs.Lines.{NODE_LIMIT, SameLines}
use Rattle.kp_embed.proofs.lines.Lines.grow.Given as goal

abbrev pub invariant-loop : goal.invariant-loop
invariant-loop l =
    SameLines l.initial.self-inside.lines.items l.self-inside.lines.items × (length l.self-inside.lines.items ≡ l.counter) × (length l.self-inside.lines.items ≤ NODE_LIMIT)
