-- Connections that are made and lost.
use Rattle.std.specs.Prelude.{ℕ, [], ◌∷◌, Some, None}
use Rattle.kp_embed.specs.Going.{Acts, if_core}
use Rattle.kp_embed.specs.Lines.{AtNode}
use Rattle.kp_embed.specs.Producer.{Producer, fresh_line}
use Rattle.kp_rules.specs.Calls.{Disconnect}

-- What was in flight to the node is dropped, to be sent again, and nothing else; nothing is carried to the node any more.
pub record Loses (node now : ℕ) (old new : Producer) : Type 0 where
  pub acts : Acts old (if_core old.core (Disconnect node now ∷ [])) new
  pub lines : AtNode node None old.lines new.lines

-- The same, and a new connection to the node carries nothing yet.
pub record Connects (node now : ℕ) (old new : Producer) : Type 0 where
  pub acts : Acts old (if_core old.core (Disconnect node now ∷ [])) new
  pub lines : AtNode node (Some fresh_line) old.lines new.lines
