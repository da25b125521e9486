-- What the connections to nodes carry.
use Rattle.std.specs.Prelude.{◌≡◌, ◌≢◌, ℕ, List, Option, None, slice_index_or}
use Rattle.kp_embed.specs.declared.line.Line.{Line}

-- the most nodes
abbrev pub NODE_LIMIT : ℕ
NODE_LIMIT = 65536

-- the line of a node's connection, where there is one
abbrev pub line_at : ℕ → List (Option Line) → Option Line
line_at node lines = slice_index_or lines node None

-- The node's line is this one then, and the others' are as they were.
pub record AtNode (node : ℕ) (line : Option Line) (old new : List (Option Line)) : Type 0 where
  pub its : line_at node new ≡ line
  pub others : (k : ℕ) → k ≢ node → line_at k new ≡ line_at k old

-- All lines are as they were.
abbrev pub SameLines : List (Option Line) → List (Option Line) → Type 0
SameLines old new = (k : ℕ) → line_at k new ≡ line_at k old
