use Rattle.std.specs.Prelude.{◌≡◌}
use Rattle.kp_embed.proofs.TickLemmas.{TicksTo}
use Rattle.kp_embed.proofs.embed.Embed.tick.Given as goal

abbrev pub invariant-loop-node : goal.invariant-loop-node
invariant-loop-node l = TicksTo l.now l.node l.fn.self l.self × (l.self.is_closed ≡ l.fn.self.is_closed)
