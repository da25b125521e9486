-- A partition's producer ids, and how it goes on under a fresh one, in every run.
use Rattle.std.specs.Prelude.{◌≡◌, ◌⊎◌, ℕ, pos, true, ◌<◌, List, [], ◌∷◌, ◌++◌, length, map, Some, Ok, slice_get, Contains}
use Rattle.kp_log.specs.HandedOver.{AreInSequence}
use Rattle.kp_log.specs.History.{own}
use Rattle.kp_log.specs.Log.{count_of}
use Rattle.kp_rules.specs.InOrder.{AreDistinct}
use Rattle.kp_rules.specs.MaySend.{wants_id}
use Rattle.kp_rules.specs.Partitions.{present_id}
use Rattle.kp_rules.specs.Records.{HandedBatch, InitProducerId, Request}
use Rattle.kp_rules.specs.Replies.{awaited, response_step}
use Rattle.kp_world.specs.Client.{handed_at}
use Rattle.kp_world.specs.Delivering.{log_at, given}
use Rattle.kp_world.specs.Events.{WorldEvent}
use Rattle.kp_world.specs.Events as event
use Rattle.kp_world.specs.Facts.{Facts, facts}
use Rattle.kp_world.specs.LogLaws.{partition_of, own_records, as_stored}
use Rattle.kp_world.specs.Message.{sent_of}
use Rattle.kp_world.specs.World.{Reply, World}

-- Each batch's base sequence counts the records that were handed over under its id before it; so it is 0 for the first
-- under each id.
abbrev pub BeginsAnew : ℕ → Facts → Type 0
BeginsAnew p f = AreInSequence (map sent_of (handed_at p f.handed))

-- What was handed over and is not stored is under the present id; and it is one batch alone, unless the log has records
-- under this id.
pub record GoesOnAlone (p : ℕ) (f : Facts) : Type 0 where
  pub stored : List HandedBatch
  pub rest : List HandedBatch
  pub handed : handed_at p f.handed ≡ stored ++ rest
  pub records : own_records p f ≡ as_stored stored
  pub present : (b : HandedBatch) → Contains rest b → b.id ≡ present_id (partition_of p f)
  pub alone : 1 < length rest → 0 < count_of (pos (present_id (partition_of p f))) (log_at p f.logs).records

-- ---- a partition's ids

-- They are distinct, each was drawn for this producer, and what is read of the log by them is what is
-- read by all that were drawn.
pub record AreDrawn (p : ℕ) (f : Facts) : Type 0 where
  pub distinct : AreDistinct (partition_of p f).ids
  pub drawn : (id : ℕ) → Contains (partition_of p f).ids id → Contains f.ids id
  pub alone : own f.ids (log_at p f.logs).records ≡ own_records p f

-- ---- how it is given one

-- The event is a known reply with code 0 and this id, to the request for one that is in flight for the
-- partition, and the partition wants one then.
pub record GivesId (w : World) (e : WorldEvent) (p id : ℕ) : Type 0 where
  pub number : ℕ
  pub is_reply : e ≡ event.Reply number
  pub reply : Reply
  pub came : slice_get w.replies number ≡ Some reply
  pub content : reply.content ≡ given id
  pub known : (response_step w.moment reply.response w.core).answer
      ≡ Ok (record { known = true; reports = 0 })
  pub request : Request
  pub in_flight : awaited (pos reply.correlation) w.core ≡ Some request
  pub demand : request.demand ≡ InitProducerId p
  pub wanted : wants_id w.core.config (partition_of p (facts w)) ≡ true

-- The partition goes on under this id, from sequence number 0.
pub record GoesOnUnder (p id : ℕ) (before after : Facts) : Type 0 where
  pub ids : (partition_of p after).ids ≡ (partition_of p before).ids ++ id ∷ []
  pub sequence : (partition_of p after).next_sequence ≡ 0

-- Its ids stay, or the event gives it one.
abbrev pub KeepsIds : ℕ → WorldEvent → World → World → Type 0
KeepsIds p e w v =
    ((partition_of p (facts v)).ids ≡ (partition_of p (facts w)).ids) ⊎ ((id : ℕ) × GivesId w e p id)
