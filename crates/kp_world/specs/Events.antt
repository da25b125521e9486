-- What may happen in a world. Senders, partitions, packets and replies are told by their numbers, from 0.
use Rattle.std.specs.Prelude.{ℕ, List, [], ◌∷◌, Some, None, replicate, codes}
use Rattle.kp_batch.specs.declared.record.Record.{Record}
use Rattle.kp_log.specs.declared.stored.Stored.{Stored}
use Rattle.kp_log.specs.Log.{stored_as, NO_ID}
use Rattle.kp_world.specs.declared.event.Event.{Event}
use Rattle.kp_world.specs.declared.event.Event.TheVariants as schedule

pub data WorldEvent : Type 0 where
  Accept : (sender partition at : ℕ) → Record → WorldEvent  -- a sender has a record accepted, at this moment
  Take : (sender : ℕ) → WorldEvent  -- its oldest record that was accepted and not taken is appended
  Now : (moment : ℕ) → WorldEvent  -- the clock shows this moment; it may go back
  Tick : (node : ℕ) → WorldEvent  -- the producer looks at the clock, for this node
  Send : (node : ℕ) → WorldEvent  -- the next request to this node goes out, as a packet
  Deliver : (packet : ℕ) → WorldEvent  -- a packet comes to the broker, whose answer becomes a reply
  Reply : (reply : ℕ) → WorldEvent  -- a reply comes to the producer
  Drop : (node : ℕ) → WorldEvent  -- the connection to this node is gone
  Lead : (partition node : ℕ) → WorldEvent  -- this node leads the partition from now on
  Other : (partition : ℕ) → List Stored → WorldEvent  -- records of other producers are appended
  Close : WorldEvent  -- no record is accepted from now on, and what was accepted is to be sent
  End : WorldEvent  -- the producer gives up what is left
  Flush : WorldEvent  -- the producer is to send all that it was given

-- ---- the events of a schedule, in which a record has no key, and is of the moment that the clock shows;
-- another producer's have no producer id; what names no node is of node 0

abbrev pub record_at : ℕ → List ℕ → Record
record_at now value = record { timestamp = now; key = None; value = Some value; headers = [] }

abbrev pub other_records : ℕ → List Stored
other_records n = stored_as NO_ID (replicate n (record_at 0 (codes "other")))

abbrev pub meant : ℕ → Event → WorldEvent
meant now (schedule.Accept s p value) = Accept s p now (record_at now value)
meant now (schedule.Take s) = Take s
meant now (schedule.Now moment) = Now moment
meant now schedule.Tick = Tick 0
meant now (schedule.TickNode node) = Tick node
meant now schedule.Send = Send 0
meant now (schedule.SendNode node) = Send node
meant now (schedule.Deliver k treatment) = Deliver k
meant now (schedule.Reply j) = Reply j
meant now schedule.Drop = Drop 0
meant now (schedule.DropNode node) = Drop node
meant now (schedule.Leader p node) = Lead p node
meant now (schedule.Other p n) = Other p (other_records n)
meant now schedule.Close = Close
meant now schedule.End = End
meant now schedule.Flush = Flush

-- the moment that the clock shows behind an event
abbrev pub moment_after : ℕ → Event → ℕ
moment_after now (schedule.Now moment) = moment
moment_after now e = now

unfoldable pub events_of : ℕ → List Event → List WorldEvent
events_of now [] = []
events_of now (e ∷ es) = meant now e ∷ events_of (moment_after now e) es
