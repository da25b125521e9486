-- Where an item stands, and what a reply says of it.
use Rattle.std.specs.Prelude.{◌∷◌, ◌++◌, ◌≡◌, ℕ, pos, true, List, [], Some, Contains, slice_get}
use Rattle.std.specs.List.{AllByRecursion}
use Rattle.std.specs.Str.{bytes_eq}
use Rattle.kp_accum.specs.declared.config.Config.{Config}
use Rattle.kp_accum.specs.declared.item.Item.{Item}
use Rattle.kp_accum.specs.Queue.{Pending}
use Rattle.kp_accum.specs.Ready.{is_late}
use Rattle.kp_frames.specs.declared.produce.PartitionProduceResponse.{PartitionProduceResponse}
use Rattle.kp_frames.specs.declared.produce.ProduceResponse.{ProduceResponse}
use Rattle.kp_frames.specs.declared.produce.TopicProduceResponse.{TopicProduceResponse}
use Rattle.kp_frames.specs.declared.response.Response.{Response}
use Rattle.kp_frames.specs.declared.response.ResponseBody.TheVariants as body
use Rattle.kp_rules.specs.declared.meaning.Meaning.{Meaning}
use Rattle.kp_rules.specs.declared.meaning.Meaning.TheVariants.{Reject}
use Rattle.kp_rules.specs.Attempts.{awaits}
use Rattle.kp_rules.specs.Partitions.{partition_at}
use Rattle.kp_rules.specs.Records.{Open, Partition, Core}
use Rattle.kp_rules.specs.Settling.{meaning_of}

-- ---- where an item stands

pub record IsOpenIn (t : Partition) (i : Item) : Type 0 where
  pub batch : Open
  pub is_open : Contains t.open_batches batch
  pub has : Contains batch.batch.items i

pub record IsQueuedIn (t : Partition) (i : Item) : Type 0 where
  pub batch : Pending
  pub is_queued : Contains t.queue batch
  pub has : Contains batch.items i

-- the batch is late, and so is each before it in the queue
pub record IsAtLateFront (c : Config) (now : ℕ) (queue : List Pending) (batch : Pending) : Type 0 where
  pub earlier : List Pending
  pub later : List Pending
  pub split : queue ≡ earlier ++ batch ∷ later
  pub ahead : AllByRecursion (λ b. is_late c now b ≡ true) earlier
  pub late : is_late c now batch ≡ true

-- the item is queued in a batch that comes to the queue's front, and is late there
pub record ExpiresIn (c : Config) (now : ℕ) (t : Partition) (i : Item) : Type 0 where
  pub batch : Pending
  pub front : IsAtLateFront c now t.queue batch
  pub has : Contains batch.items i

-- ---- replies

-- The reply answers so to an open batch of this partition: it names the request in which the
-- batch's attempt is in flight.
pub record IsAnswered (s : Core) (response : Response) (p : ℕ) (o : Open)
    (answer : PartitionProduceResponse) : Type 0 where
  pub is_open : Contains (partition_at p s.partitions).open_batches o
  pub correlation : ℕ
  pub named : pos correlation ≡ response.correlation
  pub in_flight : awaits correlation o ≡ true
  pub produce : ProduceResponse
  pub body_is : response.body ≡ body.Produce produce
  pub topic : TopicProduceResponse
  pub topics : produce.topics ≡ topic ∷ []
  pub own : bytes_eq topic.topic s.names.topic ≡ true
  pub has : Contains topic.partitions answer
  pub partition : answer.partition ≡ pos p

-- the answer settles the batch in which the item is number k
pub record Settles (s : Core) (response : Response) (i : Item) (meaning : Meaning) : Type 0 where
  pub partition : ℕ
  pub batch : Open
  pub answer : PartitionProduceResponse
  pub answered : IsAnswered s response partition batch answer
  pub means : meaning_of answer.error_code ≡ meaning
  pub place : ℕ
  pub item : slice_get batch.batch.items place ≡ Some i

-- the answer refuses a batch of this partition for good
pub record RejectsIn (s : Core) (response : Response) (p : ℕ) : Type 0 where
  pub batch : Open
  pub answer : PartitionProduceResponse
  pub answered : IsAnswered s response p batch answer
  pub means : meaning_of answer.error_code ≡ Reject
