-- What may happen: a call on the core, or something around it.
use Rattle.std.specs.Prelude.{◌≡◌, ℕ, zero, suc, ◌+◌, ◌<◌, ◌≤◌, true, false, List, [], ◌∷◌, ◌++◌, length, Some, Ok, Contains, slice_get, slice_set, slice_index, slice_index_or}
use Rattle.kp_accum.specs.declared.item.Item.{Item}
use Rattle.kp_accum.specs.Queue.{charge_of}
use Rattle.kp_log.specs.declared.stored.Stored.{Stored}
use Rattle.kp_log.specs.BrokerStep.{Answered}
use Rattle.kp_log.specs.History.{History}
use Rattle.kp_rules.specs.declared.outcome.Report.{Report}
use Rattle.kp_rules.specs.Calls.{Call, Step, told_by, packets_by}
use Rattle.kp_rules.specs.Calls as call
use Rattle.kp_rules.specs.Next.{Sending}
use Rattle.kp_rules.specs.Records.{Core, Produce, InitProducerId}
use Rattle.kp_rules.specs.Requesting.{Packet}
use Rattle.kp_world.specs.Accepting.{for_partition}
use Rattle.kp_world.specs.Client.{handed_with}
use Rattle.kp_world.specs.Delivering.{logs_with_others}
use Rattle.kp_world.specs.Message.{Answers}
use Rattle.kp_world.specs.World.{Reply}
use Rattle.kp_headline.specs.Outside.{Outside, State}

pub data Move : Type 0 where
  Accepting : Item → Move  -- a sender has the item accepted
  Calling : Call → Core → Move  -- the core is called, and is this one then
  Meeting : (packet : ℕ) → Sending → Answered → History → Move  -- a packet's part comes to its log, which says this and is so then
  Drawing : (packet : ℕ) → (ids : List ℕ) → Reply → Move  -- a request for an id comes; these are all ids drawn then, and so it is answered
  Others : (partition : ℕ) → List Stored → Move  -- records of other producers are appended

-- ---- what is outside once a call was made

-- A batch is handed over when it first goes out.
abbrev pub with_packets : List Packet → Outside → Outside
with_packets [] o = o
with_packets (x ∷ xs) o = with_packets xs (record o {
  packets = o.packets ++ x ∷ [];
  handed = handed_with x.demand o.handed;
})

-- the reports that were fetched, by sender, with one more of this sender
abbrev pub with_report : ℕ → Report → List (List Report) → List (List Report)
with_report zero report [] = (report ∷ []) ∷ []
with_report zero report (x ∷ xs) = (x ++ report ∷ []) ∷ xs
with_report (suc s) report [] = [] ∷ with_report s report []
with_report (suc s) report (x ∷ xs) = x ∷ with_report s report xs

abbrev pub with_taken : ℕ → Outside → Outside
with_taken s o = record o { taken = slice_set o.taken s (slice_index o.taken s + 1) }

abbrev pub changed : Core → Call → Outside → Outside
changed s (call.Append i (Ok done)) o = with_taken i.sender o
changed s (call.Request node now (Ok answer)) o = with_packets (packets_by s (call.Request node now (Ok answer))) o
changed s call.Close o = record o { is_shut = true }
changed s (call.Fetch sender (Some report)) o = record o { fetched = with_report sender report o.fetched }
changed s c o = o

abbrev pub called : Core → Call → Outside → Outside
called s c o = record (changed s c o) { told = o.told ++ told_by s c }

-- ---- what comes of a move

abbrev pub with_accepted : Item → Outside → Outside
with_accepted i o = record o {
  accepted = slice_set o.accepted i.sender (slice_index_or o.accepted i.sender [] ++ i ∷ []);
}

abbrev pub with_said : ℕ → Sending → Answered → History → Outside → Outside
with_said k x answer log o = record o {
  logs = slice_set o.logs x.partition log;
  said = o.said ++ (record { packet = k; part = x; answer = answer }) ∷ [];
}

abbrev pub with_answered : List ℕ → Reply → Outside → Outside
with_answered ids reply o = record o { ids = ids; answered = o.answered ++ reply ∷ [] }

abbrev pub with_others : ℕ → List Stored → Outside → Outside
with_others p records o = record o { logs = logs_with_others p records o.logs }

abbrev pub after : Move → State → State
after (Accepting i) a = record { core = a.core; outside = with_accepted i a.outside }
after (Calling c t) a = record { core = t; outside = called a.core c a.outside }
after (Meeting k x answer log) a = record { core = a.core; outside = with_said k x answer log a.outside }
after (Drawing k ids reply) a = record { core = a.core; outside = with_answered ids reply a.outside }
after (Others p records) a = record { core = a.core; outside = with_others p records a.outside }

-- ---- which moves there are

-- The gate is open; sender and partition are there; the item has the next number and is within the limits.
pub record IsAccepted (a : State) (i : Item) : Type 0 where
  pub going : a.outside.is_shut ≡ false
  pub sender : i.sender < length a.outside.accepted
  pub partition : i.partition < length a.outside.logs
  pub number : i.number
      ≡ length (for_partition i.partition (slice_index_or a.outside.accepted i.sender []))
  pub fits_request : charge_of i ≤ a.core.config.max_request_size
  pub fits_memory : charge_of i ≤ a.core.config.buffer_memory

-- The packet with this number went out with this part, whose partition is there. It may come at any time, as often as
-- may be, with its other parts or without.
pub record Comes (a : State) (k : ℕ) (x : Sending) : Type 0 where
  pub packet : Packet
  pub went_out : slice_get a.outside.packets k ≡ Some packet
  pub parts : List Sending
  pub demand : packet.demand ≡ Produce parts
  pub part : Contains parts x
  pub there : x.partition < length a.outside.logs

-- The packet with this number went out and asks for an id, and the reply is one to it.
pub record Asks (a : State) (k : ℕ) (reply : Reply) : Type 0 where
  pub packet : Packet
  pub went_out : slice_get a.outside.packets k ≡ Some packet
  pub partition : ℕ
  pub demand : packet.demand ≡ InitProducerId partition
  pub correlation : reply.correlation ≡ packet.correlation
  pub answers : Answers packet.correlation reply.content reply.response

abbrev pub IsMove : State → Move → Type 0
IsMove a (Accepting i) = IsAccepted a i
IsMove a (Calling c t) = Step a.core c t
IsMove a (Meeting k x answer log) = Comes a k x
IsMove a (Drawing k ids reply) = Asks a k reply
IsMove a (Others p records) = p < length a.outside.logs

-- ---- one after the other

abbrev pub led : State → List Move → State
led a [] = a
led a (m ∷ ms) = led (after m a) ms

-- It holds of each move and the state before it.
abbrev pub Throughout : (State → Move → Type 0) → State → List Move → Type 0
Throughout Holds a [] = Unit {0}
Throughout Holds a (m ∷ ms) = Holds a m × Throughout Holds (after m a) ms

abbrev pub AreMoves : State → List Move → Type 0
AreMoves a ms = Throughout IsMove a ms
