-- Runs that bring about each outcome, and one that no schedule has: what holds of every run is said of some.
use Rattle.std.specs.Prelude.{◌≡◌, ℕ, pos, false, List, [], ◌∷◌, ◌++◌, map, flat_map, Some, None, codes}
use Rattle.kp_batch.specs.declared.record.Record.{Record}
use Rattle.kp_accum.specs.Config.{default_config}
use Rattle.kp_rules.specs.declared.outcome.Outcome.{Outcome}
use Rattle.kp_frames.specs.declared.produce.PartitionProduceResponse.{PartitionProduceResponse}
use Rattle.kp_frames.specs.declared.response.Response.{Response}
use Rattle.kp_frames.specs.declared.response.ResponseBody.TheVariants.{Produce}
use Rattle.kp_log.specs.Log.{stored_as}
use Rattle.kp_world.specs.declared.event.Event.{Event}
use Rattle.kp_world.specs.declared.event.Event.TheVariants.{Accept, Take, Now, Tick, Send, Deliver, Reply, Drop, Other, Close, End, Flush}
use Rattle.kp_world.specs.declared.event.Treatment.TheVariants.{Judged, Refused}
use Rattle.kp_world.specs.Events.{WorldEvent, events_of}
use Rattle.kp_world.specs.Events as world
use Rattle.kp_world.specs.Run.{IsReached}
use Rattle.kp_world.specs.Text.{Text}
use Rattle.kp_world.specs.World.{World, Opening, scheduled}

-- what was told in a world, in order
abbrev pub outcomes_in : World → List Outcome
outcomes_in w = flat_map (λ h. map (λ t. t.outcome) h.told) w.past

-- With the default configuration, a partition and a sender, the schedule leads to a world in which just this was told.
pub record Tells (es : List Event) (outcomes : List Outcome) : Type 0 where
  pub world : World
  pub reached : IsReached (scheduled default_config 1 1) (events_of 0 es) world
  pub told : outcomes_in world ≡ outcomes

-- ---- schedules

-- a record of one byte goes through sender 0 to partition 0
abbrev pub feed : ℕ → List Event
feed byte = Accept 0 0 (byte ∷ []) ∷ Take 0 ∷ []

-- Its batch is stored, the connection is lost before the reply, and another producer's records come; it is sent again,
-- and the repeat is answered with its offset.
abbrev pub stored_and_repeated : List Event
stored_and_repeated =
    feed 97 ++ Send ∷ Deliver 0 Judged ∷ Other 0 2 ∷ Drop ∷ Now 100 ∷ Send ∷ Deliver 1 Judged ∷ Reply 1 ∷ Flush ∷ Close ∷ []

-- No reply comes until its delivery timeout is over.
abbrev pub sent_and_late : List Event
sent_and_late = feed 97 ++ Send ∷ Now 120000 ∷ Tick ∷ []

-- The broker refuses its batch for good, and then a second record comes.
abbrev pub refused_and_followed : List Event
refused_and_followed = feed 97 ++ Send ∷ Deliver 0 (Refused (pos 10)) ∷ Reply 0 ∷ feed 97

-- It is not sent until its delivery timeout is over.
abbrev pub queued_and_late : List Event
queued_and_late = feed 97 ++ Now 120000 ∷ Tick ∷ []

-- The producer is ended while it waits.
abbrev pub queued_and_ended : List Event
queued_and_ended = feed 97 ++ End ∷ []

-- ---- a run that no schedule has

-- The run begins so and leads to a world in which the replies were these messages, and just this was told.
pub record Leads (o : Opening) (es : List WorldEvent) (responses : List Response)
    (outcomes : List Outcome) : Type 0 where
  pub world : World
  pub reached : IsReached o es world
  pub replies : map (λ r. r.response) world.replies ≡ responses
  pub told : outcomes_in world ≡ outcomes

abbrev pub orders : Opening
orders = record {
  config = default_config;
  names = record { topic = codes "orders"; client = codes "till" };
  partitions = 2;
  senders = 1;
  id = 7;
  correlation = 40;
  audits = false;
}

-- a record of this moment with a key and a header
abbrev pub keyed : ℕ → Text → Record
keyed moment key = record {
  timestamp = moment;
  key = Some key;
  value = None;
  headers = (record { key = codes "kind"; value = Some (codes "new") }) ∷ [];
}

-- Two such records for two partitions go out together, behind another idempotent producer's record in
-- the first one's log, and are stored.
abbrev pub stored_together : List WorldEvent
stored_together =
    world.Accept 0 0 3 (keyed 5 (codes "a")) ∷ world.Accept 0 1 2 (keyed 4 (codes "b"))
    ∷ world.Take 0 ∷ world.Take 0 ∷ world.Other 0 (stored_as (pos 8) (keyed 1 (codes "c") ∷ []))
    ∷ world.Now 100 ∷ world.Send 0 ∷ world.Deliver 0 ∷ world.Reply 0 ∷ []

-- The entries stand the other way around, each with the time of its append, and the broker held the
-- answer back for a while.
abbrev pub stored_at : ℕ → ℕ → ℕ → PartitionProduceResponse
stored_at p base moment = record {
  partition = pos p;
  error_code = pos 0;
  base_offset = pos base;
  log_append_time_ms = pos moment;
}

abbrev pub exchanged : Response
exchanged = record {
  correlation = pos 40;
  body = Produce (record {
    topics = (record {
      topic = codes "orders";
      partitions = stored_at 1 0 102 ∷ stored_at 0 1 101 ∷ [];
    }) ∷ [];
    throttle_time_ms = pos 30;
  });
}
