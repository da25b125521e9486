-- What contracts see of a sender's handle.
use Rattle.std.specs.Prelude.{◌≡◌, ◌≢◌, ℕ, ◌≤◌, [], ◌∷◌, ◌++◌, Option, Some, None, Result, Ok, Err}
use Rattle.kp_batch.specs.declared.record.Record.{Record}
use Rattle.kp_lanes.specs.Entries.{count_of}
use Rattle.kp_lanes.specs.Gate.{told_shut}
use Rattle.kp_lanes.specs.Sender.{accepted, entered, finished_id, finished_number, got, goes_to, known_free_of, sender_id, sender_number, turn, turn_after, Accepts, Refuses, SameSender, sender_view, seen_reports}
use Rattle.kp_lanes.specs.declared.entry.Entry.TheVariants.{Mark}
use Rattle.kp_lanes.specs.declared.fault.FlushFault.{FlushFault}
use Rattle.kp_lanes.specs.declared.fault.FlushFault.TheVariants as flushing
use Rattle.kp_lanes.specs.declared.fault.SendFault.{SendFault}
use Rattle.kp_lanes.specs.declared.fault.SendFault.TheVariants.{Closed}
use Rattle.kp_lanes.specs.declared.sender.Finished.{Finished}
use Rattle.kp_lanes.specs.declared.sender.Sender.{Sender}
use Rattle.kp_lanes.specs.declared.target.Target.{Target}
use Rattle.kp_lanes.specs.declared.target.Ticket.{Ticket}
use Rattle.kp_rules.specs.declared.outcome.Report.{Report}
use Rattle.kp_client.specs.declared.producer.Producer.{Producer}

-- its end of its lane
abbrev pub lane_of : Producer → Sender
lane_of producer = producer.sender

-- what is left of it once it has finished: of the same sender, at the same lane
abbrev pub Finishes : Producer → Finished → Type 0
Finishes producer finished =
    (finished_number finished ≡ sender_number (lane_of producer)) × (finished_id finished ≡ sender_id (lane_of producer))

-- the same sender, with the same lane
abbrev pub SameProducer : Producer → Producer → Type 0
SameProducer old new = SameSender (lane_of old) (lane_of new)

-- what its clock showed last, in milliseconds since the producer was opened
abbrev pub shown_by : Producer → ℕ
shown_by producer = producer.passed.shown

-- Its clock counts from the same moment, and has not gone back.
pub record ClockGoesOn (old new : Producer) : Type 0 where
  pub since : new.passed.start ≡ old.passed.start
  pub never_back : shown_by old ≤ shown_by new

-- The record was accepted, for the partition of its target and with its next number there, at the moment that the clock
-- showed, and stands last in the lane. Nothing more is known of the gate.
pub record HasSent (old : Producer) (target : Target) (body : Record) (ticket : Ticket) (new : Producer) : Type 0 where
  pub partition : ticket.partition ≡ goes_to (lane_of old) target body
  pub may : Accepts (lane_of old) ticket.partition body
  pub number : ticket.number ≡ count_of ticket.partition (accepted (lane_of old))
  pub last : accepted (lane_of new) ≡ accepted (lane_of old)
      ++ record { sender = sender_number (lane_of old); partition = ticket.partition; number = ticket.number; at = shown_by new; body = body } ∷ []
  pub turns : turn (lane_of new) ≡ turn_after (lane_of old) target body
  pub unknown : sender_view (lane_of new) ≡ sender_view (lane_of old)

-- nothing has entered the lane, and the next record is numbered and placed as before
pub record LostNothing (old new : Producer) : Type 0 where
  pub entries : entered (lane_of new) ≡ entered (lane_of old)
  pub turns : turn (lane_of new) ≡ turn (lane_of old)

-- The record was refused and came back, and nothing has changed but that the gate is known to be shut, where this is why.
pub record HasRefused (old : Producer) (target : Target) (body : Record) (fault : SendFault) (back : Record) (new : Producer) : Type 0 where
  pub same : back ≡ body
  pub lost_nothing : LostNothing old new
  pub why : fault ≢ Closed → Refuses (lane_of old) (goes_to (lane_of old) target body) body fault
  pub unknown : fault ≢ Closed → sender_view (lane_of new) ≡ sender_view (lane_of old)
  pub closed : fault ≡ Closed → sender_view (lane_of new) ≡ told_shut (sender_view (lane_of old))

abbrev pub Answers : Producer → Target → Record → Result Ticket (SendFault × Record) → Producer → Type 0
Answers old target body (Ok ticket) new = HasSent old target body ticket new
Answers old target body (Err refused) new = HasRefused old target body refused.0 refused.1 new

-- One try: the record was accepted, or refused.
pub record Sends (old : Producer) (target : Target) (body : Record) (answer : Result Ticket (SendFault × Record)) (new : Producer) : Type 0 where
  pub same : SameProducer old new
  pub heard : got (lane_of new) ≡ got (lane_of old)
  pub clock : ClockGoesOn old new
  pub answers : Answers old target body answer new

-- The last of some tries, of which all others met a full lane.
pub record SendsLater (old : Producer) (target : Target) (body : Record) (answer : Result Ticket (SendFault × Record)) (new : Producer) : Type 0 where
  pub last : Producer
  pub same : SameProducer old last
  pub heard : got (lane_of last) ≡ got (lane_of old)
  pub clock : ClockGoesOn old last
  pub lost_nothing : LostNothing old last
  pub unknown : sender_view (lane_of last) ≡ sender_view (lane_of old)
  pub sends : Sends last target body answer new

-- A mark was put behind all that the sender has sent. Nothing more is known of the gate.
pub record HasMarked (old new : Producer) : Type 0 where
  pub marked : entered (lane_of new) ≡ entered (lane_of old) ++ Mark ∷ []
  pub unknown : sender_view (lane_of new) ≡ sender_view (lane_of old)

-- No mark was put, and nothing has changed but that the gate is known to be shut, where this is why.
pub record HasNotMarked (old : Producer) (fault : FlushFault) (new : Producer) : Type 0 where
  pub lost_nothing : entered (lane_of new) ≡ entered (lane_of old)
  pub full : fault ≡ flushing.LaneFull → known_free_of (lane_of old) ≡ 0
  pub unknown : fault ≢ flushing.Closed → sender_view (lane_of new) ≡ sender_view (lane_of old)
  pub closed : fault ≡ flushing.Closed → sender_view (lane_of new) ≡ told_shut (sender_view (lane_of old))

abbrev pub Marks : Producer → Result (Unit {0}) FlushFault → Producer → Type 0
Marks old (Ok done) new = HasMarked old new
Marks old (Err fault) new = HasNotMarked old fault new

-- A flush was asked for, or not. What was accepted and received stays.
pub record Flushes (old : Producer) (answer : Result (Unit {0}) FlushFault) (new : Producer) : Type 0 where
  pub same : SameProducer old new
  pub items : accepted (lane_of new) ≡ accepted (lane_of old)
  pub turns : turn (lane_of new) ≡ turn (lane_of old)
  pub heard : got (lane_of new) ≡ got (lane_of old)
  pub marks : Marks old answer new

-- The next report was received, or this end of the ring sees none.
abbrev pub Hears : Producer → Option Report → Producer → Type 0
Hears old (Some report) new = got (lane_of new) ≡ got (lane_of old) ++ report ∷ []
Hears old None new = (got (lane_of new) ≡ got (lane_of old)) × (seen_reports (lane_of new) ≡ [])
