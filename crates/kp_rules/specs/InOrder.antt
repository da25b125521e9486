-- What holds of every core that calls have led to: what their rules lean on.
use Rattle.std.specs.Prelude.{◌≡◌, ℕ, ◌+◌, ◌<◌, ◌≤◌, ◌^◌, true, false, List, [], ◌∷◌, length, map, flat_map, Ok, All, Contains}
use Rattle.std.specs.List.{AllByRecursion, enumerate_from}
use Rattle.std.specs.Str.{IsUtf8}
use Rattle.kp_accum.specs.declared.config.Config.{Config}
use Rattle.kp_accum.specs.declared.item.Item.{Item}
use Rattle.kp_accum.specs.Config.{checked}
use Rattle.kp_accum.specs.Queue.{size_of}
use Rattle.kp_rules.specs.declared.attempt.Attempt.TheVariants.{InFlight, Waiting}
use Rattle.kp_rules.specs.declared.names.Names.{Names}
use Rattle.kp_rules.specs.Records.{Open, Partition, Request, Core}
use Rattle.kp_rules.specs.Attempts.{partitions_of, to_node}
use Rattle.kp_rules.specs.Calls.{Call, Append, Reply, Life, Lives}
use Rattle.kp_rules.specs.Held.{IsRecord}
use Rattle.kp_rules.specs.Opening.{NAME_LIMIT, MayOpen, new_core}
use Rattle.kp_rules.specs.Partitions.{is_in, partition_at, used}

-- ---- batches

-- an item of this partition, of a sender that is there
pub record IsItemOf (senders p : ℕ) (i : Item) : Type 0 where
  pub sender : i.sender < senders
  pub partition : i.partition ≡ p
  pub body : IsRecord i.body

-- items of a batch, which a request can hold
pub record AreItemsOf (c : Config) (senders p : ℕ) (items : List Item) : Type 0 where
  pub some : 0 < length items
  pub fits : size_of items ≤ c.max_request_size
  pub each : AllByRecursion (IsItemOf senders p) items

-- An open batch has a number that was given, under an id that is an int64, and each record a
-- sequence number; and it is no further behind the next batch than requests may be in flight.
pub record IsOpenOf (c : Config) (senders p : ℕ) (t : Partition) (o : Open) : Type 0 where
  pub items : AreItemsOf c senders p o.batch.items
  pub number : o.batch.number < t.next_number
  pub span : t.next_number ≤ o.batch.number + c.max_in_flight_requests_per_connection
  pub id : o.batch.id < 2 ^ 63
  pub sequence : o.batch.sequence + length o.batch.items ≤ c.sequence_limit

-- ---- lists of numbers

-- each stands there once
abbrev pub AreDistinct : List ℕ → Type 0
AreDistinct [] = Unit {0}
AreDistinct (n ∷ ns) = (is_in n ns ≡ false) × AreDistinct ns

abbrev pub AreRising : List ℕ → Type 0
AreRising [] = Unit {0}
AreRising (n ∷ ns) = AllByRecursion (λ m. n < m) ns × AreRising ns

-- ---- partitions

-- the requests in which these batches' attempts are in flight
abbrev pub requests_awaited : List Open → List ℕ
requests_awaited batches =
    flat_map (λ o. elim o.attempt [ InFlight k ↦ k ∷ [] | Waiting since ↦ [] ]) batches

-- The attempt in request k is in flight: the request is, went to this node, and has a batch of this
-- partition.
pub record IsAwaited (requests : List Request) (leader p k : ℕ) : Type 0 where
  pub request : Request
  pub there : Contains requests request
  pub named : request.correlation ≡ k
  pub at : request.node ≡ leader
  pub has : is_in p (partitions_of request.demand) ≡ true

-- the attempts of a partition that are in flight are so at its leader
abbrev pub AreAwaited : List Request → ℕ → Partition → Type 0
AreAwaited requests p t =
    AllByRecursion (IsAwaited requests t.leader p) (requests_awaited t.open_batches)

-- nothing is queued or open
pub record IsEmptied (t : Partition) : Type 0 where
  pub queue : t.queue ≡ []
  pub open_batches : t.open_batches ≡ []

-- the partition with this number, where this is the next request's correlation id
pub record IsPartition (c : Config) (senders correlation p : ℕ) (t : Partition) : Type 0 where
  pub queue : AllByRecursion (λ b. AreItemsOf c senders p b.items) t.queue
  pub opens : AllByRecursion (IsOpenOf c senders p t) t.open_batches
  pub rising : AreRising (map (λ o. o.batch.number) t.open_batches)
  pub attempts : AreDistinct (requests_awaited t.open_batches)
  pub attempted : AllByRecursion (λ k. k < correlation) (requests_awaited t.open_batches)
  pub ids : AllByRecursion (λ id. id < 2 ^ 63) t.ids
  pub known : 0 < length t.ids
  pub sequence : t.next_sequence ≤ c.sequence_limit
  pub handed_over : t.next_number ≤ t.attempts_sent
  pub sent : t.attempts_sent ≤ correlation
  pub fenced : t.fenced ≡ true → IsEmptied t

-- ---- requests

-- A request in flight has a correlation id that was used, and each of its partitions once.
pub record IsRequest (partitions correlation : ℕ) (r : Request) : Type 0 where
  pub used : r.correlation < correlation
  pub there : AllByRecursion (λ p. p < partitions) (partitions_of r.demand)
  pub once : AreDistinct (partitions_of r.demand)

-- ---- the core

pub record AreNames (n : Names) : Type 0 where
  pub topic : length n.topic ≤ NAME_LIMIT
  pub topic_is_text : IsUtf8 n.topic
  pub client : length n.client ≤ NAME_LIMIT
  pub client_is_text : IsUtf8 n.client

pub record IsInOrder (s : Core) : Type 0 where
  pub config : checked s.config ≡ Ok tt
  pub names : AreNames s.names
  pub partition_limit : length s.partitions ≤ 1024
  pub partitions :
      AllByRecursion (λ x. IsPartition s.config (length s.reports) s.correlation x.0 x.1)
      (enumerate_from 0 s.partitions)
  pub requests : AllByRecursion (IsRequest (length s.partitions) s.correlation) s.requests
  pub correlations : AreDistinct (map (λ r. r.correlation) s.requests)
  pub window :
      (node : ℕ) → length (to_node node s.requests) ≤ s.config.max_in_flight_requests_per_connection
  pub awaited : (p : ℕ) → AreAwaited s.requests p (partition_at p s.partitions)
  pub memory : used s ≤ s.config.buffer_memory
  pub nothing_left : s.ended ≡ true → AllByRecursion IsEmptied s.partitions
  pub nothing_in_flight : s.ended ≡ true → s.requests ≡ []

-- what a program hands in: a record's moment is an int64, and its headers' keys are texts; a reply
-- is bytes
abbrev pub IsHeld : Call → Type 0
IsHeld (Append i answer) = IsRecord i.body
IsHeld (Reply now content answer) = All (λ byte. byte < 2 ^ 8) content
IsHeld call = Unit {0}

-- ---- a core's life

-- A new core, opened so, has lived through these calls, and is this core now.
pub record HasLived (c : Config) (n : Names) (partitions senders id correlation : ℕ)
    (calls : List Call) (life : Life) (t : Core) : Type 0 where
  pub opens : MayOpen c n partitions senders id correlation
  pub topic : IsUtf8 n.topic
  pub client : IsUtf8 n.client
  pub held : AllByRecursion IsHeld calls
  pub lives : Lives (new_core c n partitions senders id correlation) calls life t
