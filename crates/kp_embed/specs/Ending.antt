-- Calls on a producer that are one call on its core.
use Rattle.std.specs.Prelude.{[], ◌∷◌}
use Rattle.kp_embed.specs.Going.{Acts, if_core}
use Rattle.kp_embed.specs.Lines.{SameLines}
use Rattle.kp_embed.specs.Producer.{Producer}
use Rattle.kp_rules.specs.Calls.{Call}

-- The core is called so, where there is one; connections are as they were.
pub record Calls (call : Call) (old new : Producer) : Type 0 where
  pub acts : Acts old (if_core old.core (call ∷ [])) new
  pub lines : SameLines old.lines new.lines
