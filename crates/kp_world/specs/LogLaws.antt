-- What holds of the partitions' logs in every run, for any honest broker.
use Rattle.std.specs.Prelude.{◌≡◌, ℕ, ℤ, pos, List, ◌∷◌, ◌++◌, map, length, None, Contains}
use Rattle.kp_accum.specs.declared.item.Item.{Item}
use Rattle.kp_log.specs.declared.stored.Stored.{Stored}
use Rattle.kp_log.specs.BrokerStep.{Answered, BrokerStep, DUPLICATE_SEQUENCE_NUMBER}
use Rattle.kp_log.specs.History.{History, records_of, own}
use Rattle.kp_rules.specs.declared.outcome.Outcome.TheVariants.{Delivered, DeliveredNoOffset}
use Rattle.kp_rules.specs.Attempts.{awaiting}
use Rattle.kp_rules.specs.Next.{Sending}
use Rattle.kp_rules.specs.Partitions.{partition_at, present_id}
use Rattle.kp_rules.specs.Records.{Produce, HandedBatch, Partition, Told}
use Rattle.kp_rules.specs.Requesting.{Packet}
use Rattle.kp_world.specs.Accounts.{items_handed}
use Rattle.kp_world.specs.Client.{handed_at}
use Rattle.kp_world.specs.Delivering.{log_at}
use Rattle.kp_world.specs.Facts.{Facts}
use Rattle.kp_world.specs.Message.{sent_of}
use Rattle.kp_world.specs.World.{PartAnswer, Batches, Reply, World}

abbrev pub partition_of : ℕ → Facts → Partition
partition_of p f = partition_at p f.core.partitions

-- ---- the log

-- the own records of a partition's log: those under the partition's producer ids, in order
abbrev pub own_records : ℕ → Facts → List Stored
own_records p f = own (partition_of p f).ids (log_at p f.logs).records

-- the records of these batches, as a log has them
abbrev pub as_stored : List HandedBatch → List Stored
as_stored batches = records_of (map sent_of batches)

-- Of the batches that were handed over for the partition the first so many are stored, whole and in
-- their order, and the log has no other own records.
pub record IsPrefix (p : ℕ) (f : Facts) : Type 0 where
  pub stored : List HandedBatch
  pub rest : List HandedBatch
  pub handed : handed_at p f.handed ≡ stored ++ rest
  pub records : own_records p f ≡ as_stored stored

-- ---- what was told

-- The item's record is the one at this offset of its partition's log, under one of the partition's
-- ids, and as many own records stand before it as items were handed over before it.
pub record StandsAt (f : Facts) (i : Item) (offset : ℤ) : Type 0 where
  pub earlier : List Item
  pub later : List Item
  pub handed : items_handed i.partition f ≡ earlier ++ i ∷ later
  pub id : ℕ
  pub known : Contains (partition_of i.partition f).ids id
  pub before : List Stored
  pub after : List Stored
  pub record_is : (log_at i.partition f.logs).records
      ≡ before ++ (record { producer_id = pos id; body = i.body }) ∷ after
  pub offset_is : offset ≡ pos (length before)
  pub place : length (own (partition_of i.partition f).ids before) ≡ length earlier

abbrev pub ToldOffsetsStand : Facts → Type 0
ToldOffsetsStand f =
    (t : Told) (offset : ℤ)
    → Contains f.told t
    → t.outcome ≡ Delivered offset
    → StandsAt f t.item offset

-- No item is told delivered without its offset.
abbrev pub EachDeliveryHasItsOffset : Facts → Type 0
EachDeliveryHasItsOffset f =
    (t : Told) → Contains f.told t → t.outcome ≡ DeliveredNoOffset → ⊥

-- ---- answers

-- A reply was given to the packet with this correlation id, and this is a part of it.
pub record WasAnswered (w : World) (k : ℕ) (a : PartAnswer) : Type 0 where
  pub reply : Reply
  pub given : Contains w.replies reply
  pub correlation : reply.correlation ≡ k
  pub parts : List PartAnswer
  pub content : reply.content ≡ Batches parts
  pub part : Contains parts a

-- Where a batch was called a duplicate of one that the broker no longer knows, the attempt that was
-- answered is not in flight.
abbrev pub NoDuplicateIsAwaited : World → Type 0
NoDuplicateIsAwaited w =
    (k : ℕ) (a : PartAnswer)
    → WasAnswered w k a
    → a.answer.code ≡ DUPLICATE_SEQUENCE_NUMBER
    → awaiting k (partition_at a.partition w.core.partitions) ≡ None

-- ---- packets

-- A packet went out with this batch of the partition.
pub record WentOut (f : Facts) (p : ℕ) (b : HandedBatch) : Type 0 where
  pub packet : Packet
  pub sent : Contains f.packets packet
  pub parts : List Sending
  pub demand : packet.demand ≡ Produce parts
  pub part : Contains parts (record { partition = p; batch = b })

-- Whenever a batch under an earlier producer id comes again, the log stays as it is.
abbrev pub EarlierIdsAreSilent : Facts → Type 0
EarlierIdsAreSilent f =
    (p : ℕ) (b : HandedBatch)
    → WentOut f p b
    → (b.id ≡ present_id (partition_of p f) → ⊥)
    → (answer : Answered) (after : History)
    → BrokerStep (log_at p f.logs) (sent_of b) answer after
    → after ≡ log_at p f.logs
