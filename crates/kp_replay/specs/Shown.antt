-- What is seen of a world that runs, and which world of the definitions it is.
use Rattle.std.specs.Prelude.{◌≡◌, ℕ, Bool, true, not, List, [], ◌∷◌, ◌++◌, ◌&&◌, nat_lt, length, map, flat_map, Some, Ok}
use Rattle.std.specs.List.{AllByRecursion, range_with_len}
use Rattle.kp_accum.specs.declared.config.Config.{Config}
use Rattle.kp_accum.specs.declared.item.Item.{Item}
use Rattle.kp_frames.specs.Response as response
use Rattle.kp_frames.specs.Stream.{frame}
use Rattle.kp_log.specs.KeptBatches.{IsHistoryOf}
use Rattle.kp_log.specs.Log.{Log}
use Rattle.kp_rules.specs.Flush.{is_flushed}
use Rattle.kp_rules.specs.Framing.{FitsPacket, frame_of}
use Rattle.kp_rules.specs.Records.{Core}
use Rattle.kp_rules.specs.Reports.{reports_to}
use Rattle.kp_rules.specs.Requesting.{Packet}
use Rattle.kp_rules.specs.declared.outcome.Report.{Report}
use Rattle.kp_rules.specs.declared.outgoing.Outgoing.{Outgoing}
use Rattle.kp_world.specs.Line.{Line}
use Rattle.kp_schedule.specs.Grammar.{MayBeSaid}
use Rattle.kp_world.specs.Replay.{replayed, stepped}
use Rattle.kp_world.specs.Run.{MayBegin}
use Rattle.kp_world.specs.World.{World, Happened, Reply, names, opening, scheduled}
use Rattle.kp_world.specs.declared.event.Event.{Event}
use Rattle.kp_world.specs.declared.event.Event.TheVariants as event
use Rattle.kp_replay.specs.Fetching.{all_fetched, by_sender}

-- ---- what is seen

-- what an event was answered, and the reports that it made, by sender
pub record Noted : Type 0 where
  pub answer : List Line
  pub reports : List Report
  pub flushed : Bool

pub record Seen : Type 0 where
  pub core : Core
  pub accepted : List (List Item)  -- by sender, copies
  pub taken : List ℕ  -- by sender
  pub packets : List Outgoing  -- as frames
  pub replies : List (List ℕ)  -- as frames
  pub logs : List Log  -- by partition
  pub drawn : ℕ  -- how many producer ids were drawn
  pub moment : ℕ
  pub is_shut : Bool
  pub past : List Noted

-- An event ended: all reports are fetched, and it is noted what they are, and what was answered.
abbrev pub with_noted : List Line → Bool → Seen → Seen
with_noted answer was_flushed s = record s {
  core = all_fetched s.core;
  past = s.past ++ (record {
    answer = answer;
    reports = by_sender s.core.reports;
    flushed = not was_flushed && is_flushed s.core;
  }) ∷ [];
}

-- ---- of which world

-- one of these for each of those
abbrev pub Each : {A B : Type 0} → (A → B → Type 0) → List A → List B → Type 0
Each R [] [] = Unit {0}
Each R (x ∷ xs) (y ∷ ys) = R x y × Each R xs ys
Each R [] (y ∷ ys) = ⊥
Each R (x ∷ xs) [] = ⊥

-- A packet is kept as the frame of its message, which has one.
pub record IsSent (c : Config) (packet : Packet) (o : Outgoing) : Type 0 where
  pub correlation : o.correlation ≡ packet.correlation
  pub bytes : o.bytes ≡ frame_of c names packet
  pub fits : FitsPacket c names packet

-- and so is a reply
pub record IsReplied (r : Reply) (frame_bytes : List ℕ) : Type 0 where
  pub fits : response.FitsResponse r.response
  pub bytes : frame_bytes ≡ frame.spell (response.spelling r.response)

abbrev pub noted_of : ℕ → Happened → Noted
noted_of senders h = record {
  answer = h.answer;
  reports = flat_map (λ s. reports_to s h.told) (range_with_len 0 senders);
  flushed = h.flushed;
}

-- What is seen is of this world, whose core is opened with this configuration: all its reports stand in
-- what happened.
pub record Shows (c : Config) (w : World) (a : Seen) : Type 0 where
  pub config : w.core.config ≡ c
  pub called : w.core.names ≡ names
  pub senders : length w.core.reports ≡ length w.accepted
  pub core : a.core ≡ all_fetched w.core
  pub accepted : a.accepted ≡ w.accepted
  pub taken : a.taken ≡ w.taken
  pub packets : Each (IsSent c) w.packets a.packets
  pub replies : Each IsReplied w.replies a.replies
  pub logs : Each IsHistoryOf w.logs a.logs
  pub drawn : a.drawn ≡ length w.ids
  pub moment : a.moment ≡ w.moment
  pub is_shut : a.is_shut ≡ w.is_shut
  pub past : a.past ≡ map (noted_of (length w.accepted)) w.past

-- ---- events

-- The world is one to which a schedule leads, with this configuration.
pub record IsReplayed (c : Config) (w : World) : Type 0 where
  pub partitions : ℕ
  pub senders : ℕ
  pub events : List Event
  pub may_begin : MayBegin (scheduled c partitions senders)
  pub may_be : AllByRecursion MayBeSaid events
  pub leads : replayed events (opening (scheduled c partitions senders)) ≡ Ok w

-- By this event the world that is seen becomes the one that is then seen.
abbrev pub LeadsOn : Event → Seen → Seen → Type 0
LeadsOn e a b =
    (c : Config) (w : World)
    → IsReplayed c w
    → Shows c w a
    → (v : World) × (stepped e w ≡ Some v) × Shows c v b

-- What the event names is there.
abbrev pub is_there : Event → Seen → Bool
is_there (event.Accept s p value) a = nat_lt s (length a.accepted) && nat_lt p (length a.logs)
is_there (event.Take s) a = nat_lt s (length a.accepted)
is_there (event.Deliver k how) a = nat_lt k (length a.packets)
is_there (event.Reply j) a = nat_lt j (length a.replies)
is_there (event.Leader p node) a = nat_lt p (length a.logs)
is_there (event.Other p n) a = nat_lt p (length a.logs)
is_there _ a = true
