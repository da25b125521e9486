-- What became of the items that were accepted: handed over, told, or still waiting.
use Rattle.std.specs.Prelude.{◌≡◌, ℕ, Bool, true, false, List, [], slice_index, slice_index_or, map, filter, flat_map, length, take, drop, not, ◌==◌, ◌&&◌, ◌||◌}
use Rattle.std.specs.List.{AllByRecursion, IsDistinct, list_any, range_with_len, sum_by}
use Rattle.kp_accum.specs.declared.item.Item.{Item}
use Rattle.kp_accum.specs.Queue.{charge_of}
use Rattle.kp_rules.specs.declared.outcome.Outcome.{Outcome}
use Rattle.kp_rules.specs.declared.outcome.Outcome.TheVariants.{Unsent}
use Rattle.kp_rules.specs.InOrder.{AreRising}
use Rattle.kp_rules.specs.Partitions.{partition_at, items_queued, used}
use Rattle.kp_rules.specs.Records.{HandedBatch, Told}
use Rattle.kp_world.specs.Accepting.{for_partition}
use Rattle.kp_world.specs.Client.{handed_at}
use Rattle.kp_world.specs.Facts.{Facts}

-- ---- items: of one sender and partition they are told apart by their numbers

abbrev pub is_same : Item → Item → Bool
is_same i j = i.sender == j.sender && (i.partition == j.partition && (i.number == j.number))

abbrev pub is_among : Item → List Item → Bool
is_among i items = list_any (is_same i) items

abbrev pub of_sender : ℕ → List Item → List Item
of_sender s items = filter (λ i. i.sender == s) items

-- ---- handed over

-- the items of batches, in order
abbrev pub items_of : List HandedBatch → List Item
items_of batches = flat_map (λ b. b.items) batches

abbrev pub items_handed : ℕ → Facts → List Item
items_handed p f = items_of (handed_at p f.handed)

-- ---- told

abbrev pub told_items : Facts → List Item
told_items f = map (λ t. t.item) f.told

abbrev pub is_unsent : Outcome → Bool
is_unsent (Unsent why) = true
is_unsent _ = false

-- the items that were told Unsent
abbrev pub unsent_among : List Told → List Item
unsent_among told = map (λ t. t.item) (filter (λ t. is_unsent t.outcome) told)

-- ---- accepted, and still waiting

abbrev pub all_accepted : ℕ → Facts → List Item
all_accepted s f = slice_index_or f.accepted s []

-- a sender's items that were accepted and taken, and those not yet taken
abbrev pub taken_from : ℕ → Facts → List Item
taken_from s f = take (slice_index f.taken s) (all_accepted s f)

abbrev pub not_taken : ℕ → Facts → List Item
not_taken s f = drop (slice_index f.taken s) (all_accepted s f)

-- a partition's items that were taken and wait in its queue
abbrev pub queued_at : ℕ → Facts → List Item
queued_at p f = items_queued (partition_at p f.core.partitions).queue

abbrev pub still_waits : Facts → Item → Bool
still_waits f i = is_among i (not_taken i.sender f) || is_among i (queued_at i.partition f)

-- ---- what was accepted is accounted for

-- It was neither told Unsent nor does it still wait.
abbrev pub has_left : Facts → Item → Bool
has_left f i = not (is_among i (unsent_among f.told)) && not (still_waits f i)

-- What was handed over of a sender and partition is what was accepted and has left, in order.
abbrev pub AreAccountedFor : ℕ → ℕ → Facts → Type 0
AreAccountedFor s p f =
    of_sender s (items_handed p f) ≡ filter (has_left f) (for_partition p (all_accepted s f))

-- An item's number is its place among those that its sender had accepted for its partition.
pub record ArePlaced (s p : ℕ) (f : Facts) : Type 0 where
  pub senders : AllByRecursion (λ i. i.sender ≡ s) (all_accepted s f)
  pub numbers : map (λ i. i.number) (for_partition p (all_accepted s f))
      ≡ range_with_len 0 (length (for_partition p (all_accepted s f)))

-- Of each sender the items were handed over in the order of their numbers, and each once.
abbrev pub AreInOrder : ℕ → ℕ → Facts → Type 0
AreInOrder s p f = AreRising (map (λ i. i.number) (of_sender s (items_handed p f)))

-- No item that was told Unsent was handed over.
abbrev pub IsNeverSent : ℕ → Facts → Type 0
IsNeverSent p f = AllByRecursion (λ i. is_among i (unsent_among f.told) ≡ false) (items_handed p f)

-- ---- what was taken is told once, and uses memory until then

-- No two of the items that were told are one.
abbrev pub IsToldOnce : Facts → Type 0
IsToldOnce f = IsDistinct is_same (told_items f)

-- the items that were taken, by sender
abbrev pub items_taken : Facts → List Item
items_taken f = flat_map (λ s. taken_from s f) (range_with_len 0 (length f.accepted))

-- The memory that is used is what the items take that were taken and are not told.
abbrev pub IsUsedByUntold : Facts → Type 0
IsUsedByUntold f =
    used f.core ≡ sum_by charge_of (filter (λ i. not (is_among i (told_items f))) (items_taken f))

-- ---- a flush

-- All that was taken before is told now.
abbrev pub IsToldBy : Facts → Facts → Type 0
IsToldBy now before = AllByRecursion (λ i. is_among i (told_items now) ≡ true) (items_taken before)
