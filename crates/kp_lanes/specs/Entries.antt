-- The entries of a lane: items, and marks between them.
use Rattle.std.specs.Prelude.{◌≡◌, ℕ, ◌+◌, ◌<◌, ◌≤◌, ◌==◌, Bool, true, false, List, [], ◌∷◌, ◌++◌, length, slice_index_or, Option, Some, None, if◌then◌else◌}
use mathlib.Core.List.{IsPrefix}
use Rattle.kp_batch.specs.declared.record.Record.{Record}
use Rattle.kp_accum.specs.declared.item.Item.{Item}
use Rattle.kp_lanes.specs.declared.entry.Entry.{Entry}
use Rattle.kp_lanes.specs.declared.entry.Entry.TheVariants.{Sent, Mark}

-- the items, in order
abbrev pub items_of : List Entry → List Item
items_of [] = []
items_of (Sent x ∷ es) = x ∷ items_of es
items_of (Mark ∷ es) = items_of es

-- whether a mark stands among them
abbrev pub has_mark : List Entry → Bool
has_mark [] = false
has_mark (Sent x ∷ es) = has_mark es
has_mark (Mark ∷ es) = true

-- 1 where the item is of the partition, else 0
abbrev pub one_of : ℕ → Item → ℕ
one_of p x = if x.partition == p then 1 else 0

-- how many of the items are of the partition
abbrev pub count_of : ℕ → List Item → ℕ
count_of p [] = 0
count_of p (x ∷ xs) = one_of p x + count_of p xs

-- the item is the next of its partition behind those before it
abbrev pub IsNext : List Item → Item → Type 0
IsNext before x = x.number ≡ count_of x.partition before

-- an item is the next of its partition behind those before it, and a mark may stand anywhere
abbrev pub MayFollow : List Entry → Entry → Type 0
MayFollow before (Sent x) = IsNext (items_of before) x
MayFollow before Mark = Unit {0}

-- the next number of each partition is how many items of it stand there
abbrev pub Counted : List ℕ → List Entry → Type 0
Counted next es = (p : ℕ) → p < length next → slice_index_or next p 0 ≡ count_of p (items_of es)

-- Whatever was put into a lane, of which what was taken out is a beginning: a mark of it was taken since there were so many, and
-- all items that stand before this mark.
abbrev pub TookMark : ℕ → List Entry → Type 0
TookMark since passed =
    (entered : List Entry) → IsPrefix passed entered
    → (before behind : List Entry) × (entered ≡ before ++ Mark ∷ behind) × (since ≤ length before) × (length before < length passed)
    × IsPrefix (items_of before) (items_of passed)

-- Where what was taken out of a lane is a beginning of what was put into it, and is longer than what stands before a mark, it
-- has all items that stand before the mark.
abbrev pub MarksFollow : Type 0
MarksFollow =
    (entered passed before behind : List Entry) → IsPrefix passed entered → entered ≡ before ++ Mark ∷ behind
    → length before < length passed → IsPrefix (items_of before) (items_of passed)

-- the record of an item that was sent
abbrev pub body_of : Entry → Option Record
body_of (Sent x) = Some x.body
body_of Mark = None
