-- What the time does: requests time out, and batches are given up (request.timeout.ms and
-- delivery.timeout.ms of Kafka's documentation; that a batch which was sent fences its partition at
-- its deadline is this producer's own rule).
use Rattle.std.specs.Prelude.{ℕ, Bool, true, false, List, [], ◌∷◌, ◌&&◌, if◌then◌else◌}
use Rattle.std.specs.List.{list_any}
use Rattle.kp_accum.specs.declared.config.Config.{Config}
use Rattle.kp_accum.specs.Queue.{Pending}
use Rattle.kp_accum.specs.Ready.{is_over, is_late}
use Rattle.kp_rules.specs.declared.outcome.Outcome.TheVariants.{Unsent}
use Rattle.kp_rules.specs.declared.outcome.Reason.TheVariants.{Expired}
use Rattle.kp_rules.specs.declared.ticked.Ticked.{Ticked}
use Rattle.kp_rules.specs.Records.{Open, Partition, Core, Effect, Called, quietly}
use Rattle.kp_rules.specs.Partitions.{items_queued}
use Rattle.kp_rules.specs.Attempts.{goes_to}
use Rattle.kp_rules.specs.Dropping.{drop_requests}
use Rattle.kp_rules.specs.Telling.{told_all, at_each}
use Rattle.kp_rules.specs.Fence.{fence}

-- ---- requests

-- a request in flight to this node has waited for request.timeout.ms
unfoldable pub has_timed_out : ℕ → ℕ → Core → Bool
has_timed_out node now s =
    list_any (λ r. goes_to node r && is_over r.sent s.config.request_timeout_ms now) s.requests

-- ---- one partition

abbrev pub is_open_late : Config → ℕ → Open → Bool
is_open_late c now o = is_over o.begun c.delivery_timeout_ms now

-- the batches at the front of the queue whose delivery timeout is over
unfoldable pub late_front : Config → ℕ → List Pending → List Pending
late_front c now [] = []
late_front c now (b ∷ rest) = if is_late c now b then b ∷ late_front c now rest else []

-- the queue without them
unfoldable pub behind_late : Config → ℕ → List Pending → List Pending
behind_late c now [] = []
behind_late c now (b ∷ rest) = if is_late c now b then behind_late c now rest else b ∷ rest

abbrev pub expire_front : Config → ℕ → Partition → Effect
expire_front c now t = record {
  after = record t { queue = behind_late c now t.queue };
  told = told_all (Unsent Expired) (items_queued (late_front c now t.queue));
}

-- An open batch that is late fences its partition, and then nothing is queued; else the late front
-- of the queue expires.
unfoldable pub heed_deadlines : Config → ℕ → Partition → Effect
heed_deadlines c now t =
    if list_any (is_open_late c now) t.open_batches then fence t else expire_front c now t

-- ---- the core, by any rule for a partition: the producer's is the one above, and others show why
-- it is needed

abbrev pub TickRule : Type 0
TickRule = Config → ℕ → Partition → Effect

abbrev pub Ticks : Type 0
Ticks = Called Ticked

-- the partitions by this rule, upwards
abbrev pub tick_partitions : TickRule → ℕ → Bool → Core → Ticks
tick_partitions rule now reconnect s =
    let made = at_each (rule s.config now) s in
    record {
      after = made.after;
      told = made.told;
      answer = record { reports = made.answer; reconnect = reconnect };
    }

-- First, where a request to this node has timed out, all attempts there are dropped; then each
-- partition, upwards. After the end nothing happens.
abbrev pub tick_by : TickRule → ℕ → ℕ → Core → Ticks
tick_by rule node now s =
    if s.ended then quietly s (record { reports = 0; reconnect = false })
    else if has_timed_out node now s then tick_partitions rule now true (drop_requests node now s)
    else tick_partitions rule now false s

-- ---- the core

unfoldable pub tick_step : ℕ → ℕ → Core → Ticks
tick_step node now s = tick_by heed_deadlines node now s
