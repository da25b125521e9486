-- What a poll of the engine did.
use Rattle.std.specs.Prelude.{◌≡◌, ◌⊎◌, ◌↔◌, ℕ, ◌<◌, ◌≤◌, ◌||◌, true, false, Bool, List, [], ◌++◌, length, Option, Some, None, IsSome, IsTrue, Result, Ok, Err}
use Rattle.std.specs.declared.alloc.AllocError.{AllocError}
use Rattle.futures.specs.declared.task.Poll.{Poll}
use Rattle.futures.specs.declared.task.Poll.TheVariants.{Ready, Pending}
use Rattle.kp_connection.specs.Answers.{Answer}
use Rattle.kp_connection.specs.Answers.Answer.{Read_waits, Went, Write_failed, Write_waits}
use Rattle.kp_connection.specs.Wire.{Told, Wired, Goes, Stops, Met}
use Rattle.kp_frames.specs.declared.fault.FrameFault.{FrameFault}
use Rattle.kp_frames.specs.Stream.{stream, is_faulty}
use Rattle.kp_rules.specs.Calls.{Call}
use Rattle.kp_rules.specs.declared.fault.CoreFault.{CoreFault}
use Rattle.kp_rules.specs.declared.outgoing.Outgoing.{Outgoing}
use Rattle.kp_rules.specs.declared.ticked.Ticked.{Ticked}
use Rattle.kp_rules.specs.Partitions.{all_untold}
use Rattle.kp_engine.specs.Agreement.{waiting_of}
use Rattle.kp_engine.specs.Exchange.{AreIdle, HasMoved, IsQuiet, MayStayOpen, Runs, SomeBusy, SomeHeld, SameClosed, SameLanes, SameMail, TookEnough, mail_of, senders_of, side_of}
use Rattle.kp_engine.specs.Talking.{CutBy, HeardAll, Talks, TalksUntil, contents_of, frames_of}
use Rattle.kp_engine.specs.Turn.{Heard, ItemsPart, ItemsPartUntil, RepliesPart, RepliesPartUntil, ReportsPart, ReportsPartUntil, RequestsPart, RequestsPartUntil, TickPart}
use Rattle.kp_engine.specs.declared.exchange.Exchange.{Exchange}
use Rattle.kp_engine.specs.declared.stop.Cause.{Cause}
use Rattle.kp_engine.specs.declared.stop.Cause.TheVariants.{Io, TimedOut, BadReply}
use Rattle.kp_engine.specs.declared.stop.Stop.{Stop}
use Rattle.kp_engine.specs.declared.stop.Stop.TheVariants.{Done, NeedStream, OutOfMemory}

-- ---- the third and the fourth part together

-- Why a turn that goes on stopped writing and reading: fewer requests go out than may only where the core gave none or a
-- write waited; bytes are kept only where a write waited; and a read waited, with no reply at hand, or 16 were heard.
pub record Waits {S : Type 0} (most : ℕ) (sent : List Outgoing) (last : Option (Result (Option Outgoing) CoreFault))
    (heard : List Heard) (xs : List Answer) (v : Wired S) : Type 0 where
  pub all : ((length sent ≡ most) ⊎ IsSome last) ⊎ Met Write_waits xs
  pub kept : (v.kept ≡ []) ⊎ Met Write_waits xs
  pub enough : (length heard ≡ 16) ⊎ (Met Read_waits xs × ((stream v.held).frames ≡ []))

-- Requests are written, so many at most, and replies heard, and the connection goes on.
pub record TalksOn {S : Type 0} (answers : Told S) (most node now : ℕ) (x : Exchange) (w : Wired S) (y : Exchange) (v : Wired S) : Type 0 where
  pub sent : List Outgoing
  pub heard : List Heard
  pub asked : List Call
  pub replied : List Call
  pub xs : List Answer
  pub of_requests : RequestsPart node now sent asked
  pub of_replies : RepliesPart now heard None replied
  pub talks : Talks answers x w sent heard (asked ++ replied) xs y v
  pub within : length sent ≤ most
  pub waits : Waits most sent of_requests.last heard xs v
  pub sound : is_faulty v.held ≡ false

-- Why the connection is of no use any more: a request has waited too long, and then nothing was tried; a read failed or
-- met the end, once all replies at hand were heard, or 16; a write failed or took no bytes; a reply was refused; or the
-- size of no frame was read, once the replies before it were heard, or 16.
abbrev pub CutFor : Bool → List ℕ → List Answer → List Heard → Option (List ℕ × FrameFault) → List Call → Cause → Type 0
CutFor late held xs heard refused calls Io = (late ≡ false) × (refused ≡ None)
    × ((CutBy held xs refused Io × HeardAll 16 held xs heard) ⊎ (Met Write_failed xs ⊎ Met (Went []) xs))
CutFor late held xs heard refused calls TimedOut = (late ≡ true) × (xs ≡ []) × (calls ≡ [])
CutFor late held xs heard refused calls (BadReply fault) = (late ≡ false)
    × CutBy held xs refused (BadReply fault) × (refused ≡ None → HeardAll 16 held xs heard)

-- The same until the connection is of no use any more.
pub record TalksCut {S : Type 0} (answers : Told S) (most node now : ℕ) (late : Bool) (x : Exchange) (w : Wired S) (cause : Cause) (y : Exchange) (v : Wired S) : Type 0 where
  pub sent : List Outgoing
  pub heard : List Heard
  pub refused : Option (List ℕ × FrameFault)
  pub asked : List Call
  pub replied : List Call
  pub xs : List Answer
  pub of_requests : RequestsPart node now sent asked
  pub of_replies : RepliesPart now heard refused replied
  pub within : length sent ≤ most
  pub talks : TalksUntil answers x w sent heard (asked ++ replied) xs y v
  pub cut : CutFor late w.held xs heard refused (asked ++ replied) cause

-- The same until memory was refused, in the one part or in the other.
pub data TalkUntil (node now : ℕ) : List Outgoing → List Heard → List Call → Type 0 where
  in_requests : (sent : List Outgoing) (asked : List Call) → RequestsPartUntil node now sent asked → TalkUntil node now sent [] asked
  in_replies : (sent : List Outgoing) (heard : List Heard) (asked replied : List Call) → RequestsPart node now sent asked
      → RepliesPartUntil now heard replied → TalkUntil node now sent heard (asked ++ replied)

pub record TalksOut {S : Type 0} (answers : Told S) (most node now : ℕ) (x : Exchange) (w : Wired S) (y : Exchange) (v : Wired S) : Type 0 where
  pub sent : List Outgoing
  pub heard : List Heard
  pub calls : List Call
  pub xs : List Answer
  pub until : TalkUntil node now sent heard calls
  pub within : length sent ≤ most
  pub talks : TalksUntil answers x w sent heard calls xs y v

abbrev pub TalksAll : {S : Type 0} → Told S → (most node now : ℕ) → Bool → Exchange → Wired S → Result (Option Cause) AllocError → Exchange → Wired S → Type 0
TalksAll answers most node now late x w (Ok None) y v = (late ≡ false) × TalksOn answers most node now x w y v
TalksAll answers most node now late x w (Ok (Some cause)) y v = TalksCut answers most node now late x w cause y v
TalksAll answers most node now late x w (Err refused) y v = TalksOut answers most node now x w y v

-- ---- the last part

abbrev pub is_cut : Option Cause → Bool
is_cut None = false
is_cut (Some cause) = true

-- The core was closed, every item was told of, nothing is held and every report was handed over.
pub record IsDone (x : Exchange) : Type 0 where
  pub closed : x.closed ≡ true
  pub all_told : all_untold x.core ≡ []
  pub no_item : (i : ℕ) → i < senders_of x → (side_of x i).held ≡ None
  pub no_report : (i : ℕ) → i < senders_of x → ((mail_of x i).held ≡ None) × (waiting_of x.core i ≡ [])

-- It was not closed, or an item is not told of, or a report is held back.
abbrev pub HasMore : Exchange → Type 0
HasMore x = (x.closed ≡ false) ⊎ (((all_untold x.core ≡ []) → ⊥) ⊎ SomeHeld x)

pub record FinishesAll (node now : ℕ) (cut : Option Cause) (x : Exchange) (idle all : Bool) (y : Exchange) : Type 0 where
  pub calls : List Call
  pub part : ReportsPart (senders_of x) node now (is_cut cut) (mail_of x) calls (mail_of y)
  pub runs : Runs x calls y
  pub moved : (k : ℕ) → k < senders_of y → HasMoved k y
  pub done : IsTrue all → IsTrue idle × (AreIdle x → IsDone y)
  pub undone : (all ≡ true) ⊎ ((idle ≡ false) ⊎ HasMore y)

pub record FinishesUntil (node now : ℕ) (cut : Option Cause) (x y : Exchange) : Type 0 where
  pub calls : List Call
  pub part : ReportsPartUntil node now (is_cut cut) (mail_of x) calls (mail_of y)
  pub runs : Runs x calls y

abbrev pub Finishes : ℕ → ℕ → Option Cause → Bool → Exchange → Result Bool AllocError → Exchange → Type 0
Finishes node now cut idle x (Ok done) y = FinishesAll node now cut x idle done y
Finishes node now cut idle x (Err refused) y = FinishesUntil node now cut x y

-- ---- a turn

-- One turn at a moment, in five parts: items, and the close; the tick; requests; replies; reports. It is cut where the
-- connection is of no use any more; where a request has waited too long, there are no requests and no replies.
pub record Turn (node now : ℕ) (x : Exchange) (sent : List Outgoing) (heard : List Heard) (refused : Option (List ℕ × FrameFault))
    (cut : Option Cause) (calls : List Call) (y : Exchange) : Type 0 where
  pub closes : Bool
  pub ticked : Ticked
  pub items : List Call
  pub tick : List Call
  pub asked : List Call
  pub replied : List Call
  pub reports : List Call
  pub of_items : ItemsPart (senders_of x) (side_of x) closes items (side_of y)
  pub of_tick : TickPart node now ticked tick
  pub of_requests : RequestsPart node now sent asked
  pub of_replies : RepliesPart now heard refused replied
  pub of_reports : ReportsPart (senders_of x) node now (is_cut cut) (mail_of x) reports (mail_of y)
  pub made : calls ≡ items ++ tick ++ (asked ++ replied) ++ reports
  pub late : IsTrue ticked.reconnect ↔ (cut ≡ Some TimedOut)
  pub nothing_tried : cut ≡ Some TimedOut → asked ++ replied ≡ []
  -- items are left in a lane only behind one that is held, or 64
  pub took : (k : ℕ) → k < senders_of x → TookEnough k (side_of x k) (side_of y k) y.intake
  -- it closes at most once, and only where no sender could send any more before all was taken; and then it does
  pub closed : y.closed ≡ (x.closed || closes)
  pub only : IsTrue closes → (x.closed ≡ false) × IsQuiet y × AreIdle y
  pub must : (closes ≡ true) ⊎ MayStayOpen x y
  -- reports are held back only where the sender's ring is full
  pub moved : (k : ℕ) → k < senders_of y → HasMoved k y

-- Whether this is closed now: the core was closed at most once, and only where no sender could send any more before all
-- was taken.
pub record Closed (x : Exchange) (closes : Bool) (y : Exchange) : Type 0 where
  pub closed : y.closed ≡ (x.closed || closes)
  pub only : IsTrue closes → (x.closed ≡ false) × IsQuiet y × AreIdle y

-- A turn until memory was refused: its parts before, and what there is of the one in which it was.
pub data TurnUntil (node now : ℕ) (x y : Exchange) : List Outgoing → List Heard → List Call → Type 0 where
  in_items : (calls : List Call) → ItemsPartUntil (side_of x) calls (side_of y) → SameClosed x y → SameMail x y
      → TurnUntil node now x y [] [] calls
  before_the_tick : (closes : Bool) (items : List Call) → ItemsPart (senders_of x) (side_of x) closes items (side_of y)
      → Closed x closes y → SameMail x y → TurnUntil node now x y [] [] items
  in_talk : (closes : Bool) (ticked : Ticked) (items tick calls : List Call) (sent : List Outgoing) (heard : List Heard)
      → ItemsPart (senders_of x) (side_of x) closes items (side_of y) → Closed x closes y → TickPart node now ticked tick
      → TalkUntil node now sent heard calls → SameMail x y → TurnUntil node now x y sent heard (items ++ tick ++ calls)
  in_reports : (closes : Bool) (ticked : Ticked) (items tick asked replied reports : List Call) (sent : List Outgoing)
      (heard : List Heard) (refused : Option (List ℕ × FrameFault)) (cut : Bool)
      → ItemsPart (senders_of x) (side_of x) closes items (side_of y) → Closed x closes y → TickPart node now ticked tick
      → RequestsPart node now sent asked → RepliesPart now heard refused replied
      → ReportsPartUntil node now cut (mail_of x) reports (mail_of y)
      → TurnUntil node now x y sent heard (items ++ tick ++ (asked ++ replied) ++ reports)

-- ---- a poll

-- Behind this answer the engine is to be polled again, or to be given a stream.
abbrev pub GoesOnBehind : Poll Stop → Type 0
GoesOnBehind Pending = Unit {0}
GoesOnBehind (Ready Done) = ⊥
GoesOnBehind (Ready (NeedStream cause)) = Unit {0}
GoesOnBehind (Ready OutOfMemory) = ⊥

-- What an engine is not done for: a sender was busy in its turn, or there is more to do.
abbrev pub IsUndone : Exchange → Exchange → Type 0
IsUndone x y = SomeBusy x y ⊎ HasMore y

-- what a turn answers
abbrev pub stop_of : Bool → Option Cause → Poll Stop
stop_of true cut = Ready Done
stop_of false None = Pending
stop_of false (Some cause) = Ready (NeedStream cause)

-- It waits: one turn was made, and bytes written and bytes kept are the frames of its requests, behind those that were
-- kept; frames heard and bytes held are what was read.
pub record TurnsOn {S : Type 0} (answers : Told S) (node now : ℕ) (x : Exchange) (w : Wired S) (y : Exchange) (v : Wired S) : Type 0 where
  pub sent : List Outgoing
  pub heard : List Heard
  pub calls : List Call
  pub xs : List Answer
  pub turn : Turn node now x sent heard None None calls y
  pub runs : Runs x calls y
  pub lanes : SameLanes x y
  pub goes : Goes answers w (frames_of sent) (contents_of heard) xs v
  pub waits : Waits 16 sent turn.of_requests.last heard xs v
  pub sound : is_faulty v.held ≡ false

-- One turn was made, and the connection is of no use any more: the bytes written are a beginning of those frames, and the
-- frames heard the first of what was read.
pub record TurnsCut {S : Type 0} (answers : Told S) (node now : ℕ) (x : Exchange) (w : Wired S) (cause : Cause) (y : Exchange) (v : Wired S) : Type 0 where
  pub sent : List Outgoing
  pub heard : List Heard
  pub refused : Option (List ℕ × FrameFault)
  pub calls : List Call
  pub xs : List Answer
  pub turn : Turn node now x sent heard refused (Some cause) calls y
  pub runs : Runs x calls y
  pub lanes : SameLanes x y
  pub stops : Stops answers w (frames_of sent) (contents_of heard) xs v
  pub cut : CutFor turn.ticked.reconnect w.held xs heard refused (turn.asked ++ turn.replied) cause

-- The same until memory was refused.
pub record TurnsOut {S : Type 0} (answers : Told S) (node now : ℕ) (x : Exchange) (w : Wired S) (y : Exchange) (v : Wired S) : Type 0 where
  pub sent : List Outgoing
  pub heard : List Heard
  pub calls : List Call
  pub xs : List Answer
  pub turn : TurnUntil node now x y sent heard calls
  pub runs : Runs x calls y
  pub lanes : SameLanes x y
  pub stops : Stops answers w (frames_of sent) (contents_of heard) xs v

abbrev pub Turns : {S : Type 0} → Told S → ℕ → ℕ → Exchange → Wired S → Poll Stop → Exchange → Wired S → Type 0
Turns answers node now x w Pending y v = TurnsOn answers node now x w y v
Turns answers node now x w (Ready Done) y v =
    IsDone y × (TurnsOn answers node now x w y v ⊎ ((cause : Cause) × TurnsCut answers node now x w cause y v))
Turns answers node now x w (Ready (NeedStream cause)) y v = TurnsCut answers node now x w cause y v
Turns answers node now x w (Ready OutOfMemory) y v = TurnsOut answers node now x w y v
