-- What senders had accepted, as moves before any other: the order among senders, and among calls, is nobody's business.
use Rattle.std.specs.Prelude.{◌≡◌, ℕ, ◌+◌, ◌<◌, ◌≤◌, List, [], ◌∷◌, ◌++◌, length, map}
use Rattle.kp_accum.specs.declared.item.Item.{Item}
use Rattle.kp_accum.specs.Queue.{charge_of}
use Rattle.kp_world.specs.Accepting.{for_partition}
use Rattle.kp_world.specs.World.{Opening}
use Rattle.kp_headline.specs.Assumptions.{Assumed}
use Rattle.kp_headline.specs.Moves.{Move, Accepting, AreMoves, led}
use Rattle.kp_headline.specs.Outside.{State, new_state}

-- The item is this sender's, for a partition that is there; its number is its place among the earlier ones for this
-- partition; and it is within the limits.
pub record IsOffered (o : Opening) (s : ℕ) (earlier : List Item) (i : Item) : Type 0 where
  pub sender : i.sender ≡ s
  pub partition : i.partition < o.partitions
  pub number : i.number ≡ length (for_partition i.partition earlier)
  pub fits_request : charge_of i ≤ o.config.max_request_size
  pub fits_memory : charge_of i ≤ o.config.buffer_memory

-- behind the earlier ones, each
abbrev pub AreOffered : Opening → ℕ → List Item → List Item → Type 0
AreOffered o s earlier [] = Unit {0}
AreOffered o s earlier (i ∷ items) =
    IsOffered o s earlier i × AreOffered o s (earlier ++ i ∷ []) items

-- sender by sender, from this one on
abbrev pub AllOffered : Opening → ℕ → List (List Item) → Type 0
AllOffered o s [] = Unit {0}
AllOffered o s (items ∷ lists) = AreOffered o s [] items × AllOffered o (s + 1) lists

abbrev pub accepting : List (List Item) → List Move
accepting [] = []
accepting (items ∷ lists) = map Accepting items ++ accepting lists

-- a new state, but that this was accepted
abbrev pub having_accepted : Opening → List (List Item) → State
having_accepted o lists =
    record (new_state o) { outside = record (new_state o).outside { accepted = lists } }

-- They may all be accepted first, and nothing else is changed then.
pub record MayComeFirst (o : Opening) (lists : List (List Item)) : Type 0 where
  pub moves : AreMoves (new_state o) (accepting lists)
  pub assumed : Assumed (new_state o) (accepting lists)
  pub lead : led (new_state o) (accepting lists) ≡ having_accepted o lists
