-- Producers that go by all rules but one, and schedules in which this shows.
use Rattle.std.specs.Prelude.{ℕ, ◌+◌, ◌==◌, find, ℤ, pos, Bool, not, List, [], ◌∷◌, ◌++◌, map, filter, length, Some, option_map, unwrap_or, slice_get, nat_abs, nat_lt, ◌&&◌, Option, None, if◌then◌else◌}
use Rattle.std.specs.List.{enumerate_from, list_any}
use Rattle.kp_accum.specs.declared.config.Config.{Config}
use Rattle.kp_accum.specs.Config.{default_config}
use Rattle.kp_accum.specs.declared.item.Item.{Item}
use Rattle.kp_accum.specs.Queue.{Pending}
use Rattle.kp_accum.specs.Ready.{is_ready}
use Rattle.kp_frames.specs.declared.fault.FrameFault.TheVariants.{Mismatch}
use Rattle.kp_frames.specs.declared.produce.PartitionProduceResponse.{PartitionProduceResponse}
use Rattle.kp_frames.specs.declared.produce.TopicProduceResponse.{TopicProduceResponse}
use Rattle.kp_frames.specs.declared.response.Response.{Response}
use Rattle.kp_frames.specs.declared.response.ResponseBody.{ResponseBody}
use Rattle.kp_frames.specs.declared.response.ResponseBody.TheVariants as body
use Rattle.kp_rules.specs.declared.fault.CoreFault.TheVariants.{ReplyFault, Ended}
use Rattle.kp_rules.specs.declared.meaning.Meaning.{Meaning}
use Rattle.kp_rules.specs.declared.meaning.Meaning.TheVariants.{Reject}
use Rattle.kp_rules.specs.declared.outcome.Outcome.TheVariants.{Rejected, Unsent}
use Rattle.kp_rules.specs.declared.outcome.Reason.TheVariants.{Expired}
use Rattle.kp_rules.specs.Attempts.{awaiting, is_waiting, lowest_waiting}
use Rattle.kp_rules.specs.HandingOver.{again_in}
use Rattle.kp_rules.specs.MaySend.{HandOverRule, is_confirmed, is_in_span, is_rested, is_within_limit, sends_by}
use Rattle.kp_rules.specs.Mismatch.{answers_batches, entries_for}
use Rattle.kp_rules.specs.Next.{Sending, batches_by, demand_with}
use Rattle.kp_rules.specs.Partitions.{items_open, partition_at, changed_at}
use Rattle.kp_rules.specs.Records.{Demand, Produce, InitProducerId, Partition, Request, Core, Effect, Open}
use Rattle.kp_rules.specs.Replies.{Replies, awaited, refuse_as, unknown, known, settle}
use Rattle.kp_rules.specs.Requesting.{Packet, Requested, request_for, partitions_in}
use Rattle.kp_rules.specs.Settling.{without_attempt, meaning_of, settle_by, left_alone}
use Rattle.kp_rules.specs.Telling.{told_all, at_these}
use Rattle.kp_rules.specs.Tick.{TickRule, is_open_late, expire_front, tick_by}
use Rattle.kp_world.specs.declared.event.Event.{Event}
use Rattle.kp_world.specs.declared.event.Event.TheVariants as schedule
use Rattle.kp_world.specs.Events.{WorldEvent, events_of}
use Rattle.kp_world.specs.Events as event
use Rattle.kp_world.specs.declared.event.Treatment.TheVariants.{Judged, Refused}
use Rattle.kp_world.specs.Causes.{TellsByRule}
use Rattle.kp_world.specs.Client.{sending, reply_line, replying, ticked_to, client}
use Rattle.kp_world.specs.Facts.{Facts, facts}
use Rattle.kp_world.specs.Noting.{noted}
use Rattle.kp_world.specs.Reaching.{feed}
use Rattle.kp_world.specs.Run.{Producer, StepsBy, RunBy, MayBegin}
use Rattle.kp_world.specs.World.{Reply, World, opening, scheduled}

-- ---- what goes out

-- It hands batches over by this rule.
abbrev pub requested_by : HandOverRule → ℕ → ℕ → Core → Requested
requested_by may node now s =
    request_for node now s (demand_with (batches_by (sends_by may) node now s) node now s)

abbrev pub sending_by : HandOverRule → Producer
sending_by may (event.Send node) w =
    let step = requested_by may node w.moment w.core in Some (sending w step.after step.answer)
sending_by may e w = client e w

-- all conditions but the window, which is this one
abbrev pub with_window : (Config → Partition → Bool) → HandOverRule
with_window fits c flags now t front =
    is_ready c flags now t.queue && is_confirmed t && fits c t && is_within_limit c t front

-- A window that counts the open batches, however far their numbers lie apart.
abbrev pub counts_open : Config → Partition → Bool
counts_open c t = nat_lt (length t.open_batches) c.max_in_flight_requests_per_connection

-- A window of one batch more than may be in flight.
abbrev pub one_wider : Config → Partition → Bool
one_wider c t =
    is_in_span
    (record c { max_in_flight_requests_per_connection = c.max_in_flight_requests_per_connection + 1 })
    t.next_number t.open_batches

-- The second batch does not wait until the first is acknowledged.
abbrev pub without_waiting : HandOverRule
without_waiting c flags now t front =
    is_ready c flags now t.queue && is_in_span c t.next_number t.open_batches
    && is_within_limit c t front

-- ---- a batch that goes out again

-- It does this to each partition before a request.
abbrev pub changing_first : (Config → ℕ → Partition → Partition) → Producer
changing_first change (event.Send node) w =
    let changed = map (change w.core.config w.moment) w.core.partitions in
    client (event.Send node) (record w { core = record w.core { partitions = changed } })
changing_first change e w = client e w

-- the lowest batch that waits, with these items too
abbrev pub recut_by : List Item → List Open → List Open
recut_by items [] = []
recut_by items (o ∷ others) =
    if is_waiting o
    then (record o { batch = record o.batch { items = o.batch.items ++ items } }) ∷ others
    else o ∷ recut_by items others

abbrev pub with_front : List Pending → Partition → Partition
with_front [] t = t
with_front (front ∷ behind) t =
    record t { queue = behind; open_batches = recut_by front.items t.open_batches }

-- A batch that goes out again takes the records of the front of the queue with it, under its old base
-- sequence.
abbrev pub recut : Config → ℕ → Partition → Partition
recut c now t = elim (lowest_waiting t) [
  | None ↦ t
  | Some lowest ↦ if is_rested c now lowest then with_front t.queue t else t
]

-- ---- how a reply is heard

abbrev pub read_as : (Response → Response) → Reply → Reply
read_as change r = record r { response = change r.response }

-- It hears each reply as another message.
abbrev pub hearing_as : (World → Response → Response) → Producer
hearing_as change (event.Reply j) w =
    replying j (option_map (read_as (change w)) (slice_get w.replies j)) w
hearing_as change e w = client e w

-- the base sequence of the batch that awaits the reply to request k
abbrev pub sequence_awaiting : ℕ → Partition → ℤ
sequence_awaiting k t = unwrap_or (option_map (λ o. pos o.batch.sequence) (awaiting k t)) (pos 0)

abbrev pub at_sequence : World → ℕ → PartitionProduceResponse → PartitionProduceResponse
at_sequence w k entry = record entry {
  base_offset = sequence_awaiting k (partition_at (nat_abs entry.partition) w.core.partitions);
}

abbrev pub topic_at_sequences : World → ℕ → TopicProduceResponse → TopicProduceResponse
topic_at_sequences w k topic =
    record topic { partitions = map (at_sequence w k) topic.partitions }

abbrev pub body_at_sequences : World → ℕ → ResponseBody → ResponseBody
body_at_sequences w k (body.Produce x) =
    body.Produce (record x { topics = map (topic_at_sequences w k) x.topics })
body_at_sequences w k other = other

-- An offset is the sequence number.
abbrev pub at_sequences : World → Response → Response
at_sequences w x = record x { body = body_at_sequences w (nat_abs x.correlation) x.body }

abbrev pub to_first : List Request → Response → Response
to_first [] x = x
to_first (q ∷ others) x = record x { correlation = pos q.correlation }

-- A reply to no request in flight settles the oldest that is.
abbrev pub to_oldest : World → Response → Response
to_oldest w x = elim (awaited x.correlation w.core) [ None ↦ to_first w.core.requests x | Some q ↦ x ]

-- the batch went out in this request
abbrev pub went_out_in : List Sending → ℕ → Open → Bool
went_out_in xs p o = list_any (λ x. x.partition == p && (x.batch.number == o.batch.number)) xs

abbrev pub awaiting_again : ℕ → List Sending → ℕ → Partition → Partition
awaiting_again k xs p t = record t {
  open_batches = map (λ o. if went_out_in xs p o then again_in k o else o) t.open_batches;
}

-- the request is in flight again
abbrev pub with_request_again : ℕ → ℕ → Demand Sending → Core → Core
with_request_again now k (Produce xs) s = record s {
  partitions = changed_at (partitions_in xs) (awaiting_again k xs) s.partitions;
  requests =
      s.requests
      ++ (record { correlation = k; node = 0; sent = now; demand = Produce (partitions_in xs) }) ∷ [];
}
with_request_again now k (InitProducerId p) s = s

abbrev pub with_packet_again : ℕ → Option Packet → Core → Core
with_packet_again now (Some o) s = with_request_again now o.correlation o.demand s
with_packet_again now None s = s

abbrev pub as_if_in_flight : Reply → World → World
as_if_in_flight r w = elim (awaited (pos r.correlation) w.core) [
  | None ↦ record w {
    core = with_packet_again w.moment (find (λ o. o.correlation == r.correlation) w.packets) w.core;
  }
  | Some q ↦ w
]

abbrev pub hearing_all : ℕ → Option Reply → World → Option World
hearing_all j (Some r) w = replying j (Some r) (as_if_in_flight r w)
hearing_all j None w = None

-- A reply to a dropped attempt settles the attempt's batch.
abbrev pub settling_dropped : Producer
settling_dropped (event.Reply j) w = hearing_all j (slice_get w.replies j) w
settling_dropped e w = client e w

-- ---- what an answer does

abbrev pub SettleRule : Type 0
SettleRule = (now request : ℕ) → Partition → PartitionProduceResponse → Effect

-- Each batch of a request is settled by this rule.
abbrev pub settled_by : SettleRule → ℕ → Core → ℕ → Demand ℕ → ResponseBody → Replies
settled_by rule now s k (Produce ps) (body.Produce response) =
    if answers_batches k ps s response
    then known (at_these ps (λ p t. elim (entries_for p response) [
      | [] ↦ left_alone t
      | entry ∷ others ↦ rule now k t entry
    ]) s)
    else refuse_as (ReplyFault Mismatch) s
settled_by rule now s k demand x = settle now s k demand x

abbrev pub response_by : SettleRule → ℕ → Response → Core → Replies
response_by rule now response s =
    if s.ended then refuse_as Ended s
    else elim (awaited response.correlation s) [
      | None ↦ unknown s
      | Some r ↦ settled_by rule now s r.correlation r.demand response.body
    ]

abbrev pub replied_by : SettleRule → ℕ → Option Reply → World → Option World
replied_by rule j None w = None
replied_by rule j (Some r) w =
    let step = response_by rule w.moment r.response w.core in
    Some (noted step.after (reply_line j step.answer) step.told w)

abbrev pub settling_by : SettleRule → Producer
settling_by rule (event.Reply j) w = replied_by rule j (slice_get w.replies j) w
settling_by rule e w = client e w

abbrev pub settled_alone : ℕ → ℕ → Partition → PartitionProduceResponse → Open → Meaning → Effect
settled_alone now k t entry o Reject = record {
  after = without_attempt k t;
  told = told_all (Rejected entry.error_code) o.batch.items;
}
settled_alone now k t entry o meaning = settle_by now k t o entry meaning

-- A batch that is refused for good is told so, and its partition goes on.
abbrev pub without_fence : SettleRule
without_fence now k t entry = elim (awaiting k t) [
  | None ↦ left_alone t
  | Some o ↦ settled_alone now k t entry o (meaning_of entry.error_code)
]

-- ---- what the time does

-- It does this at each partition.
abbrev pub ticking_by : TickRule → Producer
ticking_by rule (event.Tick node) w = Some (ticked_to (tick_by rule node w.moment w.core) w)
ticking_by rule e w = client e w

abbrev pub without_late : Config → ℕ → Partition → Partition
without_late c now t =
    record t { open_batches = filter (λ o. not (is_open_late c now o)) t.open_batches }

-- An open batch that is late expires, as those at the front of the queue do.
abbrev pub open_expires : TickRule
open_expires c now t =
    let late = items_open (filter (is_open_late c now) t.open_batches) in
    let queue = expire_front c now (without_late c now t) in
    record { after = queue.after; told = told_all (Unsent Expired) late ++ queue.told }

-- ---- a fresh producer id

abbrev pub with_ids_of : World → World → World
with_ids_of w v = record v {
  core = record v.core {
    partitions = map (λ x. record x.1 { ids = (partition_at x.0 w.core.partitions).ids })
        (enumerate_from 0 v.core.partitions);
  };
}

-- A partition that is given an id keeps the one that it has, and its sequence begins again.
abbrev pub keeping_ids : Producer
keeping_ids (event.Reply j) w = option_map (with_ids_of w) (client (event.Reply j) w)
keeping_ids e w = client e w

-- ---- what comes of it

-- With one partition, one sender and some honest broker such a producer goes through this schedule,
-- and then the law does not hold.
pub record Breaks (producer : Producer) (c : Config) (es : List Event) (Law : Facts → Type 0)
    : Type 0 where
  pub may_begin : MayBegin (scheduled c 1 1)
  pub world : World
  pub run : RunBy (StepsBy producer) (opening (scheduled c 1 1)) (events_of 0 es) world
  pub broken : Law (facts world) → ⊥

-- So it goes through this schedule, and tells in the event behind it what the outcome rule has no
-- case for.
pub record TellsAgainstRule (producer : Producer) (c : Config) (es : List Event) (e : WorldEvent)
    : Type 0 where
  pub may_begin : MayBegin (scheduled c 1 1)
  pub before : World
  pub run : RunBy (StepsBy producer) (opening (scheduled c 1 1)) (events_of 0 es) before
  pub after : World
  pub step : StepsBy producer before e after
  pub broken : TellsByRule e before after → ⊥

-- ---- schedules

-- each batch has one record
abbrev pub one_each : Config
one_each = record default_config { batch_size = 0 }

-- two records under each producer id
abbrev pub two_an_id : Config
two_an_id = record one_each { sequence_limit = 2 }

abbrev pub stored : ℕ → List Event
stored k = schedule.Send ∷ schedule.Deliver k Judged ∷ schedule.Reply k ∷ []

-- Of five batches in flight behind the first the second is answered, and a sixth goes out. All are
-- stored, and then the lowest comes again, behind which five stand.
abbrev pub six_on_their_way : List Event
six_on_their_way =
    feed 97 ++ feed 98 ++ feed 99 ++ feed 100 ++ feed 101 ++ feed 102 ++ feed 103
    ++ stored 0 ++ schedule.Send ∷ schedule.Deliver 1 Judged ∷ schedule.Send ∷ schedule.Deliver 2 Judged
    ∷ schedule.Send ∷ schedule.Deliver 3 Judged ∷ schedule.Send ∷ schedule.Deliver 4 Judged ∷ schedule.Send
    ∷ schedule.Deliver 5 Judged ∷ schedule.Reply 2 ∷ schedule.Send ∷ schedule.Deliver 6 Judged
    ∷ schedule.Deliver 1 Judged ∷ schedule.Reply 7 ∷ []

-- The first two batches are on their way, and the second comes first and is appended.
abbrev pub second_comes_first : List Event
second_comes_first = feed 97 ++ feed 98 ++ schedule.Send ∷ schedule.Send ∷ schedule.Deliver 1 Judged ∷ []

-- The record is stored behind another producer's.
abbrev pub stored_behind_another : List Event
stored_behind_another = schedule.Other 0 1 ∷ feed 97 ++ stored 0

-- The first batch is stored; the reply comes again while the second is on its way.
abbrev pub answered_again : List Event
answered_again = feed 97 ++ feed 98 ++ stored 0 ++ schedule.Send ∷ schedule.Reply 0 ∷ []

-- The record is stored, and its attempt dropped.
abbrev pub stored_and_dropped : List Event
stored_and_dropped = feed 97 ++ schedule.Send ∷ schedule.Deliver 0 Judged ∷ schedule.Drop ∷ []

-- The record is stored, but no reply comes until its delivery timeout is over.
abbrev pub stored_and_late : List Event
stored_and_late = feed 97 ++ schedule.Send ∷ schedule.Deliver 0 Judged ∷ schedule.Now 120000 ∷ schedule.Tick ∷ []

-- The third record, which is as the first was, goes out under the id that was given.
abbrev pub goes_on_under_an_id : List Event
goes_on_under_an_id = feed 97 ++ feed 98 ++ feed 97 ++ stored 0 ++ stored 1 ++ stored 2 ++ stored 3

-- Behind the first batch the second and the third are lost; a fourth record is appended, and the
-- second goes out again.
abbrev pub second_goes_again : List Event
second_goes_again =
    feed 97 ++ feed 98 ++ feed 99 ++ stored 0 ++ schedule.Send ∷ schedule.Send ∷ schedule.Drop
    ∷ feed 100 ++ schedule.Now 100 ∷ schedule.Send ∷ schedule.Deliver 3 Judged ∷ []

-- The first batch is stored, the second is refused for good, and the third goes out under the id that
-- was given.
abbrev pub second_is_refused : List Event
second_is_refused =
    feed 97 ++ feed 98 ++ feed 99 ++ stored 0
    ++ schedule.Send ∷ schedule.Deliver 1 (Refused (pos 10)) ∷ schedule.Reply 1 ∷ stored 2 ++ stored 3
