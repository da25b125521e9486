-- What holds in every run of what was handed over for a partition.
use Rattle.std.specs.Prelude.{◌≡◌, ◌⊎◌, ℕ, ◌+◌, ◌<◌, Bool, true, false, List, [], ◌∷◌, ◌++◌, map, flat_map, ℤ, Some, None, slice_get, ◌==◌, ◌&&◌, Contains}
use Rattle.std.specs.List.{AllByRecursion, range_with_len}
use Rattle.kp_accum.specs.declared.item.Item.{Item}
use Rattle.kp_accum.specs.Queue.{Pending, body_of}
use Rattle.kp_log.specs.declared.stored.Stored.{Stored}
use Rattle.kp_rules.specs.declared.outcome.Outcome.TheVariants.{Delivered}
use Rattle.kp_rules.specs.declared.run.Run.{Run}
use Rattle.kp_rules.specs.MaySend.{new_batch}
use Rattle.kp_rules.specs.Records.{HandedBatch}
use Rattle.kp_world.specs.Accounts.{is_among, items_handed, unsent_among}
use Rattle.kp_world.specs.Client.{handed_at}
use Rattle.kp_world.specs.Events.{WorldEvent, Send}
use Rattle.kp_world.specs.Facts.{Facts}
use Rattle.kp_world.specs.LogLaws.{partition_of, own_records, WentOut}

-- ---- it grows

-- The front batch of the queue was handed over: it stands behind all that was, as a whole, and the
-- queue is what stood behind it.
pub record HandsFront (p : ℕ) (before after : Facts) : Type 0 where
  pub front : Pending
  pub queue : (partition_of p before).queue ≡ front ∷ (partition_of p after).queue
  pub handed : handed_at p after.handed
      ≡ handed_at p before.handed ++ new_batch (partition_of p before) front ∷ []

-- Nothing was handed over in an event, or it is a request by which the front batch was.
abbrev pub GrowsByFront : ℕ → WorldEvent → Facts → Facts → Type 0
GrowsByFront p e before after =
    (handed_at p after.handed ≡ handed_at p before.handed) ⊎ ((node : ℕ) × (e ≡ Send node) × HandsFront p before after)

-- What was handed over before stands first.
abbrev pub GrowsAtEnd : ℕ → Facts → Facts → Type 0
GrowsAtEnd p before after =
    (more : List HandedBatch) × (handed_at p after.handed ≡ handed_at p before.handed ++ more)

-- ---- packets

-- Each batch that went out is the one that was handed over under its number.
abbrev pub AreHandedOver : Facts → Type 0
AreHandedOver f =
    (p : ℕ) (b : HandedBatch) → WentOut f p b → slice_get (handed_at p f.handed) b.number ≡ Some b

-- It goes out with the same records, producer id and base sequence each time.
abbrev pub GoesOutTheSame : Facts → Type 0
GoesOutTheSame f =
    (p : ℕ) (b c : HandedBatch) → WentOut f p b → WentOut f p c → b.number ≡ c.number → b ≡ c

-- ---- the log, item by item

-- The record is that of item k of what was handed over, and the item was not told Unsent.
pub record IsItem (p k : ℕ) (s : Stored) (f : Facts) : Type 0 where
  pub item : Item
  pub handed : slice_get (items_handed p f) k ≡ Some item
  pub body : s.body ≡ body_of item
  pub sent : is_among item (unsent_among f.told) ≡ false

-- Own record k of the log is that of item k.
abbrev pub AreItems : ℕ → Facts → Type 0
AreItems p f = (k : ℕ) (s : Stored) → slice_get (own_records p f) k ≡ Some s → IsItem p k s f

-- ---- the audit

-- the items that a run stands for, by sender and number
abbrev pub named_by : Run → List (ℕ × ℕ)
named_by r = map (λ n. (r.sender, n)) (range_with_len r.first r.count)

abbrev pub name_of : Item → ℕ × ℕ
name_of i = (i.sender, i.number)

-- the second run begins where the first ends
abbrev pub is_followed : Run → Run → Bool
is_followed r r' = r.sender == r'.sender && (r.first + r.count == r'.first)

-- no two neighbours could be one run
abbrev pub AreApart : List Run → Type 0
AreApart [] = Unit {0}
AreApart (r ∷ []) = Unit {0}
AreApart (r ∷ r' ∷ rs) = (is_followed r r' ≡ false) × AreApart (r' ∷ rs)

-- The items are those of the runs, in order, and the runs are as long as can be.
pub record AreRunsOf (items : List Item) (runs : List Run) : Type 0 where
  pub named : flat_map named_by runs ≡ map name_of items
  pub some : AllByRecursion (λ r. 0 < r.count) runs
  pub apart : AreApart runs

-- The partition's audit is the runs of what was handed over for it; where audits are not kept, there is
-- none.
abbrev pub IsAudited : Bool → ℕ → Facts → Type 0
IsAudited true p f =
    (runs : List Run) × ((partition_of p f).audit ≡ Some runs) × AreRunsOf (items_handed p f) runs
IsAudited false p f = (partition_of p f).audit ≡ None

-- ---- the first batch under an id

-- It was told that its record stands in the log, at some offset.
abbrev pub WasDelivered : Facts → Item → Type 0
WasDelivered f i = (offset : ℤ) × Contains f.told (record { item = i; outcome = Delivered offset })

-- Where a second batch was handed over under an id, each item of the first was told Delivered.
abbrev pub FirstWasDelivered : ℕ → Facts → Type 0
FirstWasDelivered p f =
    (first second : HandedBatch)
    → Contains (handed_at p f.handed) first
    → Contains (handed_at p f.handed) second
    → first.id ≡ second.id
    → first.sequence ≡ 0
    → first.number < second.number
    → AllByRecursion (WasDelivered f) first.items
