-- A turn of the engine: its calls on the core, in five parts.
use Rattle.std.specs.Prelude.{◌≡◌, ℕ, zero, suc, ◌+◌, ◌<◌, ◌≤◌, Bool, List, [], ◌∷◌, ◌++◌, length, map, drop, Option, Some, None, option_to_list, IsSome, IsTrue, Result, Ok, Err, if◌then◌else◌}
use Rattle.std.specs.List.{AllByRecursion}
use Rattle.std.specs.Option.{ForSome}
use Rattle.kp_accum.specs.declared.fault.AppendFault.{AppendFault}
use Rattle.kp_accum.specs.declared.fault.AppendFault.TheVariants as append
use Rattle.kp_accum.specs.declared.item.Item.{Item}
use Rattle.kp_frames.specs.declared.fault.FrameFault.{FrameFault}
use Rattle.kp_lanes.specs.Entries.{items_of, has_mark}
use Rattle.kp_lanes.specs.declared.entry.Entry.{Entry}
use Rattle.kp_rules.specs.Calls.{Call, Append, Close, Disconnect, Fetch, Flush, Reply, Request, Tick}
use Rattle.kp_rules.specs.declared.fault.CoreFault.{CoreFault}
use Rattle.kp_rules.specs.declared.fault.CoreFault.TheVariants.{OutOfMemory, ReplyFault}
use Rattle.kp_rules.specs.declared.outcome.Report.{Report}
use Rattle.kp_rules.specs.declared.outgoing.Outgoing.{Outgoing}
use Rattle.kp_rules.specs.declared.ticked.Replied.{Replied}
use Rattle.kp_rules.specs.declared.ticked.Ticked.{Ticked}

-- this call, or none
abbrev pub if_so : Bool → Call → List Call
if_so b call = if b then call ∷ [] else []

-- ---- the first part: items, and the close

-- What the engine has of a sender's items: what it took out of the sender's lane, items and marks;
-- how much of it when it asked for a mark last; and the item that it holds back.
pub record Side : Type 0 where
  pub passed : List Entry
  pub asked_at : ℕ
  pub held : Option Item

-- The item that was held back is looked at alone, or else up to 64 that are taken from the lane. Of
-- these the first are appended, in their order, and the next one is held back.
pub record Takes (i : ℕ) (old : Side) (appended : List Item) (new : Side) : Type 0 where
  pub taken : List Item
  pub were_taken : items_of new.passed ≡ items_of old.passed ++ taken
  pub few : length taken ≤ 64
  pub held_first : IsSome old.held → new.passed ≡ old.passed
  pub in_order : option_to_list old.held ++ taken ≡ appended ++ option_to_list new.held
  pub theirs : AllByRecursion (λ x. x.sender ≡ i) appended

-- each is appended
abbrev pub appends : List Item → List Call
appends items = map (λ x. Append x (Ok tt)) items

-- its append is refused, since the buffer is full
abbrev pub refuses : Option Item → List Call
refuses None = []
refuses (Some x) = Append x (Err append.BufferFull) ∷ []

-- A sender's part: appends, of which the last is refused where its item is held back then; and a
-- flush, where a mark was passed.
pub record SenderPart (i : ℕ) (old : Side) (calls : List Call) (new : Side) : Type 0 where
  pub appended : List Item
  pub takes : Takes i old appended new
  pub asked : new.asked_at ≡ length new.passed
  pub made : calls
      ≡ appends appended ++ refuses new.held ++ if_so (has_mark (drop old.asked_at new.passed)) Flush

-- the append that is refused, if one is
abbrev pub fails : Option (Item × AppendFault) → List Call
fails None = []
fails (Some x) = Append x.0 (Err x.1) ∷ []

-- A sender's part until memory was refused: an item whose append was refused is held back.
pub record SenderPartUntil (i : ℕ) (old : Side) (calls : List Call) (new : Side) : Type 0 where
  pub appended : List Item
  pub takes : Takes i old appended new
  pub asked : new.asked_at ≡ old.asked_at
  pub last : Option (Item × AppendFault)
  pub last_held : (x : Item × AppendFault) → last ≡ Some x → new.held ≡ Some x.0
  pub made : calls ≡ appends appended ++ fails last

-- the parts of the first so many senders, in their order
abbrev pub SenderParts : ℕ → (ℕ → Side) → List Call → (ℕ → Side) → Type 0
SenderParts zero old calls new = calls ≡ []
SenderParts (suc n) old calls new =
    (before mine : List Call) × (calls ≡ before ++ mine)
    × SenderParts n old before new × SenderPart n (old n) mine (new n)

-- Each sender's part, and then the close, if this turn closes.
pub record ItemsPart (senders : ℕ) (old : ℕ → Side) (closes : Bool) (calls : List Call)
    (new : ℕ → Side) : Type 0 where
  pub of_senders : List Call
  pub parts : SenderParts senders old of_senders new
  pub made : calls ≡ of_senders ++ if_so closes Close

-- The same until memory was refused, in the part of the sender behind so many.
pub record ItemsPartUntil (old : ℕ → Side) (calls : List Call) (new : ℕ → Side) : Type 0 where
  pub senders : ℕ
  pub before : List Call
  pub mine : List Call
  pub parts : SenderParts senders old before new
  pub part : SenderPartUntil senders (old senders) mine (new senders)
  pub later : (k : ℕ) → senders < k → new k ≡ old k
  pub made : calls ≡ before ++ mine

-- ---- the second part: the tick

abbrev pub TickPart : ℕ → ℕ → Ticked → List Call → Type 0
TickPart node now answer calls = calls ≡ Tick node now answer ∷ []

-- ---- the third part: requests

-- the answer gives no request, and memory was not refused
abbrev pub GivesNone : Result (Option Outgoing) CoreFault → Type 0
GivesNone (Ok None) = Unit {0}
GivesNone (Ok (Some request)) = ⊥
GivesNone (Err OutOfMemory) = ⊥
GivesNone (Err fault) = Unit {0}

abbrev pub asks : ℕ → ℕ → Option (Result (Option Outgoing) CoreFault) → List Call
asks node now None = []
asks node now (Some answer) = Request node now answer ∷ []

-- the calls whose requests go out
abbrev pub requests : ℕ → ℕ → List Outgoing → List Call
requests node now sent = map (λ request. Request node now (Ok (Some request))) sent

-- Up to 16 requests go out, and the core may be asked once more, where it gives none.
pub record RequestsPart (node now : ℕ) (sent : List Outgoing) (calls : List Call) : Type 0 where
  pub last : Option (Result (Option Outgoing) CoreFault)
  pub few : length sent + length (asks node now last) ≤ 16
  pub none : ForSome last GivesNone
  pub made : calls ≡ requests node now sent ++ asks node now last

-- Memory was refused, by the core or for the copy of the request that is kept.
abbrev pub LacksMemory : Result (Option Outgoing) CoreFault → Type 0
LacksMemory (Ok None) = ⊥
LacksMemory (Ok (Some request)) = Unit {0}
LacksMemory (Err OutOfMemory) = Unit {0}
LacksMemory (Err fault) = ⊥

-- The same until memory was refused.
pub record RequestsPartUntil (node now : ℕ) (sent : List Outgoing) (calls : List Call) : Type 0 where
  pub last : Option (Result (Option Outgoing) CoreFault)
  pub few : length sent + length (asks node now last) ≤ 16
  pub lacking : ForSome last LacksMemory
  pub made : calls ≡ requests node now sent ++ asks node now last

-- ---- the fourth part: replies

-- a reply that was heard, and what the core answered
pub record Heard : Type 0 where
  pub content : List ℕ
  pub answer : Result Replied CoreFault

-- the connection goes on after this answer
abbrev pub GoesOn : Result Replied CoreFault → Type 0
GoesOn (Err (ReplyFault fault)) = ⊥
GoesOn (Err OutOfMemory) = ⊥
GoesOn answer = Unit {0}

abbrev pub hears : ℕ → Heard → Call
hears now heard = Reply now heard.content heard.answer

-- a reply that is refused with this fault
abbrev pub refused_with : Option (List ℕ × FrameFault) → List Heard
refused_with None = []
refused_with (Some x) = record { content = x.0; answer = Err (ReplyFault x.1) } ∷ []

-- Up to 16 replies are heard, of which the last may be refused.
pub record RepliesPart (now : ℕ) (heard : List Heard) (refused : Option (List ℕ × FrameFault)) (calls : List Call) : Type 0 where
  pub before : List Heard
  pub are_heard : heard ≡ before ++ refused_with refused
  pub few : length heard ≤ 16
  pub going : AllByRecursion (λ x. GoesOn x.answer) before
  pub made : calls ≡ map (hears now) heard

-- a reply for which there was no memory
abbrev pub lacking_memory : Option (List ℕ) → List Heard
lacking_memory None = []
lacking_memory (Some content) = record { content = content; answer = Err OutOfMemory } ∷ []

-- The same until memory was refused.
pub record RepliesPartUntil (now : ℕ) (heard : List Heard) (calls : List Call) : Type 0 where
  pub before : List Heard
  pub lacking : Option (List ℕ)
  pub are_heard : heard ≡ before ++ lacking_memory lacking
  pub few : length heard ≤ 16
  pub going : AllByRecursion (λ x. GoesOn x.answer) before
  pub made : calls ≡ map (hears now) heard

-- ---- the fifth part: reports

-- What the engine has of a sender's reports: those that it handed over, and the one that it holds
-- back.
pub record Mail : Type 0 where
  pub told : List Report
  pub held : Option Report

abbrev pub fetches : ℕ → List Report → List Call
fetches i reports = map (λ r. Fetch i (Some r)) reports

-- The report that was held back and those that are fetched are handed over, in their order; the
-- next one is held back.
pub record MailPart (i : ℕ) (old : Mail) (calls : List Call) (new : Mail) : Type 0 where
  pub fetched : List Report
  pub handed : List Report
  pub were_handed : new.told ≡ old.told ++ handed
  pub in_order : option_to_list old.held ++ fetched ≡ handed ++ option_to_list new.held
  pub made : calls ≡ fetches i fetched

-- the parts of the first so many senders, in their order
abbrev pub MailParts : ℕ → (ℕ → Mail) → List Call → (ℕ → Mail) → Type 0
MailParts zero old calls new = calls ≡ []
MailParts (suc n) old calls new =
    (before mine : List Call) × (calls ≡ before ++ mine)
    × MailParts n old before new × MailPart n (old n) mine (new n)

-- The attempts are dropped, where the turn was cut; and then each sender's part.
pub record ReportsPart (senders node now : ℕ) (cut : Bool) (old : ℕ → Mail) (calls : List Call)
    (new : ℕ → Mail) : Type 0 where
  pub of_senders : List Call
  pub parts : MailParts senders old of_senders new
  pub made : calls ≡ if_so cut (Disconnect node now) ++ of_senders

-- The same until memory was refused: of so many senders' parts the last may be cut short.
pub record ReportsPartUntil (node now : ℕ) (cut : Bool) (old : ℕ → Mail) (calls : List Call)
    (new : ℕ → Mail) : Type 0 where
  pub dropped : Bool
  pub only_cut : IsTrue dropped → IsTrue cut
  pub senders : ℕ
  pub of_senders : List Call
  pub parts : MailParts senders old of_senders new
  pub later : (k : ℕ) → senders ≤ k → new k ≡ old k
  pub made : calls ≡ if_so dropped (Disconnect node now) ++ of_senders
