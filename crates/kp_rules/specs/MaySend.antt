-- Which batch a partition may send (KIP-98; a broker knows a producer's last five batches, so at
-- most five may be on their way; that the second waits for the first to be acknowledged is this
-- producer's own rule).
use Rattle.std.specs.Prelude.{ℕ, ◌+◌, ◌-◌, Bool, true, false, List, [], ◌∷◌, length, Option, Some, None, ◌==◌, ◌&&◌, ◌||◌, not, nat_le, nat_lt, if◌then◌else◌}
use Rattle.kp_accum.specs.declared.config.Config.{Config}
use Rattle.kp_accum.specs.declared.flags.Flags.{Flags}
use Rattle.kp_accum.specs.Queue.{Pending}
use Rattle.kp_accum.specs.Ready.{is_over, is_ready}
use Rattle.kp_rules.specs.declared.attempt.Attempt.TheVariants.{InFlight, Waiting}
use Rattle.kp_rules.specs.Records.{HandedBatch, Open, Partition}
use Rattle.kp_rules.specs.Partitions.{is_empty, present_id}
use Rattle.kp_rules.specs.Attempts.{lowest_waiting}

-- ---- a batch goes out again

-- it has waited for retry.backoff.ms
unfoldable pub is_rested : Config → ℕ → Open → Bool
is_rested c now o = elim o.attempt [
  | InFlight k ↦ false
  | Waiting since ↦ is_over since c.retry_backoff_ms now
]

-- ---- a new batch goes out

-- nothing was handed over under the present id, or the first batch under it was acknowledged
unfoldable pub is_confirmed : Partition → Bool
is_confirmed t = t.next_sequence == 0 || t.acknowledged

-- the new batch's number less that of the lowest open batch is below max.in.flight
unfoldable pub is_in_span : Config → ℕ → List Open → Bool
is_in_span c number [] = true
is_in_span c number (lowest ∷ others) =
    nat_lt (number - lowest.batch.number) c.max_in_flight_requests_per_connection

-- with this batch, at most sequence.limit records were handed over under the present id
unfoldable pub is_within_limit : Config → Partition → Pending → Bool
is_within_limit c t b = nat_le (t.next_sequence + length b.items) c.sequence_limit

-- whether a partition may hand its front batch over
abbrev pub may_hand_over : Config → Flags → ℕ → Partition → Pending → Bool
may_hand_over c flags now t front =
    is_ready c flags now t.queue
    && is_confirmed t
    && is_in_span c t.next_number t.open_batches
    && is_within_limit c t front

-- the batch that the front of the queue becomes
abbrev pub new_batch : Partition → Pending → HandedBatch
new_batch t front = record {
  number = t.next_number;
  id = present_id t;
  sequence = t.next_sequence;
  items = front.items;
}

-- ---- what a partition sends, by any rule for handing over: the producer's is the one above, and
-- others show why it is needed

abbrev pub HandOverRule : Type 0
HandOverRule = Config → Flags → ℕ → Partition → Pending → Bool

-- The lowest batch that waits goes before any new one.
abbrev pub sends_by : HandOverRule → Config → Flags → ℕ → Partition → Option HandedBatch
sends_by may c flags now t =
    if t.fenced then None
    else elim (lowest_waiting t) [
      | Some lowest ↦ if is_rested c now lowest then Some lowest.batch else None
      | None ↦ elim t.queue [
        | [] ↦ None
        | front ∷ behind ↦ if may c flags now t front then Some (new_batch t front) else None
      ]
    ]

-- ---- what a partition sends

-- The batch that the partition may send, while the core has not ended and one request more may be
-- in flight.
unfoldable pub sends : Config → Flags → ℕ → Partition → Option HandedBatch
sends c flags now t = sends_by may_hand_over c flags now t

-- Its front batch would pass the limit.
abbrev pub is_id_spent : Config → Partition → Bool
is_id_spent c t = elim t.queue [ [] ↦ false | front ∷ behind ↦ not (is_within_limit c t front) ]

-- It wants a fresh producer id: it is not fenced, nothing is open, and its present id is spent.
unfoldable pub wants_id : Config → Partition → Bool
wants_id c t = not t.fenced && is_empty t.open_batches && is_id_spent c t
