-- Time goes on.
use Rattle.std.specs.Prelude.{◌≡◌, ◌⊎◌, ℕ, ◌+◌, Bool, false, List, [], ◌∷◌, ◌++◌, Option, Some, None, if◌then◌else◌}
use Rattle.kp_core.specs.Spent.{can_only_end}
use Rattle.kp_embed.specs.Going.{Acts, if_core}
use Rattle.kp_embed.specs.Lines.{line_at}
use Rattle.kp_embed.specs.Producer.{Producer}
use Rattle.kp_rules.specs.Calls.{Call, Disconnect, End, Tick}
use Rattle.kp_rules.specs.Records.{Core}
use Rattle.kp_rules.specs.declared.ticked.Ticked.{Ticked}

-- The core looks at the clock for a node; where a request to it is late, what is in flight there is dropped.
abbrev pub looks_at : (node now : ℕ) → Ticked → List Call
looks_at node now answer = Tick node now answer ∷ (if answer.reconnect then Disconnect node now ∷ [] else [])

-- for each of the first n nodes
pub data LooksAtAll (now : ℕ) : ℕ → List Call → Type 0 where
  none : LooksAtAll now 0 []
  one_more : (n : ℕ) (calls : List Call) (answer : Ticked) → LooksAtAll now n calls → LooksAtAll now (n + 1) (calls ++ looks_at n now answer)

-- Each line is as it was, or is not there any more.
abbrev pub MayEnd : (old new : Producer) → Type 0
MayEnd old new = (k : ℕ) → (line_at k new.lines ≡ line_at k old.lines) ⊎ (line_at k new.lines ≡ None)

-- whether there is a core whose end is all that is left for it
abbrev pub can_only_end_in : Option Core → Bool
can_only_end_in None = false
can_only_end_in (Some s) = can_only_end s

-- What is queued is given up where nothing can go out any more, and nowhere else.
pub record GivesUpIfSpent (old new : Producer) : Type 0 where
  pub told : ℕ
  pub acts : Acts old (if can_only_end_in old.core then End told ∷ [] else []) new
  pub lines : new.lines ≡ old.lines

-- The core looks at the clock for each node; and what is queued is given up then, where nothing can go out any more.
pub record Ticks (now : ℕ) (old new : Producer) : Type 0 where
  pub nodes : ℕ
  pub calls : List Call
  pub looks : LooksAtAll now nodes calls
  pub looked : Producer
  pub acts : Acts old (if_core old.core calls) looked
  pub lines : MayEnd old looked
  pub gives_up : GivesUpIfSpent looked new

-- for one node
pub record TicksOne (node now : ℕ) (old new : Producer) : Type 0 where
  pub answer : Ticked
  pub acts : Acts old (if_core old.core (looks_at node now answer)) new
  pub lines : MayEnd old new
