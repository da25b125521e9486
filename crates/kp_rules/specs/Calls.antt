-- Calls on a core, with their arguments and answers, and what they make of it.
use Rattle.std.specs.Prelude.{◌≡◌, ℕ, List, [], ◌∷◌, ◌++◌, Option, Some, None, Result, Ok, Err, Contains}
use Rattle.kp_accum.specs.declared.fault.AppendFault.{AppendFault}
use Rattle.kp_accum.specs.declared.fault.AppendFault.TheVariants as append
use Rattle.kp_accum.specs.declared.item.Item.{Item}
use Rattle.kp_rules.specs.declared.fault.CoreFault.{CoreFault}
use Rattle.kp_rules.specs.declared.fault.CoreFault.TheVariants.{OutOfMemory}
use Rattle.kp_rules.specs.declared.outcome.Report.{Report}
use Rattle.kp_rules.specs.declared.outgoing.Outgoing.{Outgoing}
use Rattle.kp_rules.specs.declared.ticked.Replied.{Replied}
use Rattle.kp_rules.specs.declared.ticked.Ticked.{Ticked}
use Rattle.kp_rules.specs.Records.{Core, Told, Called, Produce}
use Rattle.kp_rules.specs.Appending.{append_step, AppendNeedsMemory}
use Rattle.kp_rules.specs.Closing.{close_step, end_step}
use Rattle.kp_rules.specs.Dropping.{disconnect_step}
use Rattle.kp_rules.specs.Flush.{flush_step}
use Rattle.kp_rules.specs.Framing.{frame_of}
use Rattle.kp_rules.specs.Leading.{lead_step}
use Rattle.kp_rules.specs.Next.{Sending}
use Rattle.kp_rules.specs.Replies.{reply_step, ReplyNeedsMemory}
use Rattle.kp_rules.specs.Reports.{fetch_step}
use Rattle.kp_rules.specs.Requesting.{Packet, request_step, RequestNeedsMemory}
use Rattle.kp_rules.specs.Tick.{tick_step}

-- The calls that may change a core.
pub data Call : Type 0 where
  Append : Item → Result (Unit {0}) AppendFault → Call
  Request : (node now : ℕ) → Result (Option Outgoing) CoreFault → Call
  Reply : (now : ℕ) → (content : List ℕ) → Result Replied CoreFault → Call
  Tick : (node now : ℕ) → Ticked → Call
  Disconnect : (node now : ℕ) → Call
  Lead : (partition leader now : ℕ) → Call
  Close : Call
  Flush : Call
  End : (reports : ℕ) → Call
  Fetch : (sender : ℕ) → Option Report → Call

-- ---- one call

-- the answer of a call for a request: the packet goes out as its frame
abbrev pub answered_as : Core
    → Result (Option Packet) CoreFault
    → Result (Option Outgoing) CoreFault
answered_as s (Ok (Some packet)) = Ok (Some (record {
  correlation = packet.correlation;
  bytes = frame_of s.config s.names packet;
}))
answered_as s (Ok None) = Ok None
answered_as s (Err fault) = Err fault

-- the step answers so, and leaves this core
abbrev pub Gives : {A : Type 0} → Called A → A → Core → Type 0
Gives called answer after = (called.answer ≡ answer) × (after ≡ called.after)

-- The call gives its answer and leads from one core to the other. Where it is refused for want of
-- memory the core stays, and it can be so only where the call needs memory.
abbrev pub Step : Core → Call → Core → Type 0
Step s (Append i (Err append.OutOfMemory)) t = AppendNeedsMemory i s × (t ≡ s)
Step s (Append i answer) t = Gives (append_step i s) answer t
Step s (Request node now (Err OutOfMemory)) t = RequestNeedsMemory node now s × (t ≡ s)
Step s (Request node now answer) t =
    (answered_as s (request_step node now s).answer ≡ answer) × (t ≡ (request_step node now s).after)
Step s (Reply now content (Err OutOfMemory)) t = ReplyNeedsMemory content s × (t ≡ s)
Step s (Reply now content answer) t = Gives (reply_step now content s) answer t
Step s (Tick node now answer) t = Gives (tick_step node now s) answer t
Step s (Disconnect node now) t = t ≡ disconnect_step node now s
Step s (Lead p leader now) t = t ≡ lead_step p leader now s
Step s Close t = t ≡ close_step s
Step s Flush t = t ≡ flush_step s
Step s (End reports) t = Gives (end_step s) reports t
Step s (Fetch sender answer) t = Gives (fetch_step sender s) answer t

-- ---- what a call makes

-- what it tells
abbrev pub told_by : Core → Call → List Told
told_by s (Append i (Err append.OutOfMemory)) = []
told_by s (Append i answer) = (append_step i s).told
told_by s (Reply now content (Err OutOfMemory)) = []
told_by s (Reply now content answer) = (reply_step now content s).told
told_by s (Tick node now answer) = (tick_step node now s).told
told_by s (End reports) = (end_step s).told
told_by s call = []

-- the items that it appends
abbrev pub appended_by : Call → List Item
appended_by (Append i (Ok done)) = i ∷ []
appended_by call = []

-- the packet that goes out
abbrev pub packet_in : Result (Option Packet) CoreFault → List Packet
packet_in (Ok (Some packet)) = packet ∷ []
packet_in answer = []

abbrev pub packets_by : Core → Call → List Packet
packets_by s (Request node now (Ok answer)) = packet_in (request_step node now s).answer
packets_by s call = []

-- ---- one after the other

-- The calls lead from one core to another; they tell this, and these packets go out.
pub record Life : Type 0 where
  pub appended : List Item
  pub told : List Told
  pub packets : List Packet

-- of one call
abbrev pub life_of : Core → Call → Life
life_of s call = record {
  appended = appended_by call;
  told = told_by s call;
  packets = packets_by s call;
}

-- first one, and then the other
abbrev pub followed_by : Life → Life → Life
followed_by life later = record {
  appended = life.appended ++ later.appended;
  told = life.told ++ later.told;
  packets = life.packets ++ later.packets;
}

unfoldable pub Lives : Core → List Call → Life → Core → Type 0
Lives s [] life t = (life ≡ record { appended = []; told = []; packets = [] }) × (t ≡ s)
Lives s (call ∷ calls) life t =
    (middle : Core) × (later : Life) × Step s call middle × Lives middle calls later t
    × (life ≡ followed_by (life_of s call) later)

-- this batch went out for the partition
pub record WentOut (life : Life) (x : Sending) : Type 0 where
  pub packet : Packet
  pub sent : Contains life.packets packet
  pub batches : List Sending
  pub demand : packet.demand ≡ Produce batches
  pub has : Contains batches x
