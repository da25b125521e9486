-- What the engine does with one sender, step by step.
use Rattle.std.specs.Prelude.{◌≡◌, ◌≢◌, ◌⊎◌, ℕ, ◌<◌, ◌≤◌, ◌||◌, Bool, true, false, List, [], ◌∷◌, ◌++◌, length, Option, Some, None, IsSome, IsTrue, Result, Ok, Err, alloc_error, drop, option_to_list, slice_set}
use Rattle.std.specs.declared.alloc.AllocError.{AllocError}
use Rattle.kp_accum.specs.declared.fault.AppendFault.{AppendFault}
use Rattle.kp_accum.specs.declared.fault.AppendFault.TheVariants.{BufferFull, OutOfMemory}
use Rattle.kp_accum.specs.declared.item.Item.{Item}
use Rattle.kp_lanes.specs.Entries.{has_mark, items_of}
use Rattle.kp_lanes.specs.Intake.{lanes_of, intake_limits, intake_view, asked_lists, told_lists, passed_of}
use Rattle.kp_rules.specs.declared.outcome.Report.{Report}
use Rattle.kp_rules.specs.Appending.{may_append}
use Rattle.kp_rules.specs.Calls.{Call, Append, Close, Fetch, Flush}
use Rattle.kp_engine.specs.Agreement.{waiting_of}
use Rattle.kp_engine.specs.Exchange.{AreIdle, HasMoved, IsIdle, IsQuiet, MayStayOpen, SomeBusy, SomeHeld, WasBusy, OnlyCore, Runs, SameClosed, SameLanes, SameMail, SameSides, TookEnough, TookNone, WasFull, notes_in, mail_of, senders_of, side_of}
use Rattle.kp_engine.specs.Turn.{ItemsPart, ItemsPartUntil, MailPart, MailParts, Takes, SenderPart, SenderParts, SenderPartUntil, appends, fails, if_so, refuses}
use Rattle.kp_engine.specs.declared.exchange.Exchange.{Exchange}

-- Beside the core and the notes nothing may have changed, but that this is held at the sender's
-- place.
pub record OnlyItem (i : ℕ) (old : Exchange) (held : Option Item) (new : Exchange) : Type 0 where
  pub intake : new.intake ≡ old.intake
  pub items : new.items.items ≡ slice_set old.items.items i held
  pub reports : new.reports.items ≡ old.reports.items
  pub closed : new.closed ≡ old.closed

-- The same core and calls; only this is held at the sender's place now.
pub record HoldsNow (i : ℕ) (old : Exchange) (held : Option Item) (new : Exchange) : Type 0 where
  pub core : new.core ≡ old.core
  pub kept : notes_in new ≡ notes_in old
  pub only : OnlyItem i old held new

-- An append was refused, or was not made, for want of memory.
pub record FailsToAppend (i : ℕ) (item : Item) (old new : Exchange) : Type 0 where
  pub last : Option (Item × AppendFault)
  pub its : (x : Item × AppendFault) → last ≡ Some x → x.0 ≡ item
  pub runs : Runs old (fails last) new
  pub only : OnlyItem i old (Some item) new

-- The item was appended, or is held back since the buffer is full; or memory was refused, and it is
-- held back too.
abbrev pub AppendsOne : ℕ → Item → Exchange → Result (Unit {0}) AppendFault → Exchange → Type 0
AppendsOne i item old (Ok done) new = Runs old (Append item (Ok tt) ∷ []) new × OnlyCore old new
AppendsOne i item old (Err BufferFull) new =
    Runs old (Append item (Err BufferFull) ∷ []) new × OnlyItem i old (Some item) new
AppendsOne i item old (Err OutOfMemory) new = FailsToAppend i item old new

-- Only the sender's lane may have changed, by what was taken out of it.
pub record OnlyLane (i : ℕ) (old new : Exchange) : Type 0 where
  pub core : new.core ≡ old.core
  pub kept : notes_in new ≡ notes_in old
  pub items : new.items.items ≡ old.items.items
  pub reports : new.reports.items ≡ old.reports.items
  pub closed : new.closed ≡ old.closed
  pub lanes : lanes_of new.intake ≡ lanes_of old.intake
  pub limits : intake_limits new.intake ≡ intake_limits old.intake
  pub view : intake_view new.intake ≡ intake_view old.intake
  pub told : told_lists new.intake ≡ told_lists old.intake
  pub asked : asked_lists new.intake ≡ asked_lists old.intake
  pub others : (k : ℕ) → k ≢ i → passed_of new.intake k ≡ passed_of old.intake k

-- an item was taken which is the sender's and may be appended, or there was none
abbrev pub TakesOne : ℕ → Exchange → Option Item → Exchange → Type 0
TakesOne i old (Some x) new =
    (items_of (passed_of new.intake i) ≡ items_of (passed_of old.intake i) ++ x ∷ [])
    × (x.sender ≡ i) × (may_append x new.core ≡ true)
TakesOne i old None new =
    (items_of (passed_of new.intake i) ≡ items_of (passed_of old.intake i)) × TookNone i new.intake

-- Nothing but the sender's items may have changed, and the core.
pub record OnlySide (i : ℕ) (old new : Exchange) : Type 0 where
  pub others : (k : ℕ) → k ≢ i → side_of new k ≡ side_of old k
  pub mail : SameMail old new
  pub lanes : SameLanes old new
  pub view : intake_view new.intake ≡ intake_view old.intake
  pub closed : SameClosed old new

-- ---- one sender's items

-- items were appended until the lane was found empty, one was refused, or there were enough
pub record AppendsSome (i : ℕ) (old new : Exchange) (found_empty : Bool) : Type 0 where
  pub appended : List Item
  pub takes : Takes i (side_of old i) appended (side_of new i)
  pub asked : (side_of new i).asked_at ≡ (side_of old i).asked_at
  pub runs : Runs old (appends appended ++ refuses (side_of new i).held) new
  pub enough : TookEnough i (side_of old i) (side_of new i) new.intake
  pub idle : IsTrue found_empty → IsIdle i new
  pub busy : (found_empty ≡ true) ⊎ WasBusy (side_of old i) (side_of new i)

-- the sender's part until memory was refused
pub record AppendsUntil (i : ℕ) (old new : Exchange) : Type 0 where
  pub calls : List Call
  pub part : SenderPartUntil i (side_of old i) calls (side_of new i)
  pub runs : Runs old calls new

-- what an append that is refused ends with
abbrev pub ended_by : AppendFault → Result Bool AllocError
ended_by BufferFull = Ok false
ended_by OutOfMemory = Err alloc_error

abbrev pub AppendsFrom : ℕ → Exchange → Result Bool AllocError → Exchange → Type 0
AppendsFrom i old (Ok found_empty) new = AppendsSome i old new found_empty
AppendsFrom i old (Err refused) new = AppendsUntil i old new

-- The item that was held back was appended, or is held back again; or memory was refused.
pub record HeldAgain (i : ℕ) (item : Item) (old new : Exchange) : Type 0 where
  pub appended : List Item
  pub in_order : item ∷ [] ≡ appended ++ option_to_list (side_of new i).held
  pub runs : Runs old (appends appended ++ refuses (side_of new i).held) new
  pub passed : (side_of new i).passed ≡ (side_of old i).passed
  pub asked : (side_of new i).asked_at ≡ (side_of old i).asked_at

pub record HeldUntil (i : ℕ) (item : Item) (old new : Exchange) : Type 0 where
  pub last : Option (Item × AppendFault)
  pub its : (x : Item × AppendFault) → last ≡ Some x → x.0 ≡ item
  pub runs : Runs old (fails last) new
  pub held : (side_of new i).held ≡ Some item
  pub passed : (side_of new i).passed ≡ (side_of old i).passed
  pub asked : (side_of new i).asked_at ≡ (side_of old i).asked_at

abbrev pub AppendsHeld : ℕ → Item → Exchange → Result Bool AllocError → Exchange → Type 0
AppendsHeld i item old (Ok found_empty) new = (found_empty ≡ false) × HeldAgain i item old new
AppendsHeld i item old (Err refused) new = HeldUntil i item old new

-- A flush was made where a mark was passed since it was asked last.
pub record Flushes (i : ℕ) (old new : Exchange) : Type 0 where
  pub runs : Runs old (if_so (has_mark (drop (side_of old i).asked_at (side_of old i).passed)) Flush) new
  pub passed : (side_of new i).passed ≡ (side_of old i).passed
  pub asked : (side_of new i).asked_at ≡ length (side_of old i).passed
  pub held : (side_of new i).held ≡ (side_of old i).held

-- the sender's whole part
pub record WholePart (i : ℕ) (old new : Exchange) (found_empty : Bool) : Type 0 where
  pub calls : List Call
  pub part : SenderPart i (side_of old i) calls (side_of new i)
  pub runs : Runs old calls new
  pub enough : TookEnough i (side_of old i) (side_of new i) new.intake
  pub idle : IsTrue found_empty → IsIdle i new
  pub busy : (found_empty ≡ true) ⊎ WasBusy (side_of old i) (side_of new i)

abbrev pub TakesFrom : ℕ → Exchange → Result Bool AllocError → Exchange → Type 0
TakesFrom i old (Ok found_empty) new = WholePart i old new found_empty
TakesFrom i old (Err refused) new = AppendsUntil i old new

-- ---- all senders' items

-- nothing but senders' items may have changed, and the core
pub record OnlySides (old new : Exchange) : Type 0 where
  pub mail : SameMail old new
  pub lanes : SameLanes old new
  pub view : intake_view new.intake ≡ intake_view old.intake
  pub closed : SameClosed old new

pub record TakesAll (old new : Exchange) (idle : Bool) : Type 0 where
  pub calls : List Call
  pub parts : SenderParts (senders_of old) (side_of old) calls (side_of new)
  pub later : (k : ℕ) → senders_of old ≤ k → side_of new k ≡ side_of old k
  pub runs : Runs old calls new
  pub enough : (k : ℕ) → k < senders_of old → TookEnough k (side_of old k) (side_of new k) new.intake
  pub found : IsTrue idle → AreIdle new
  pub busy : (idle ≡ true) ⊎ SomeBusy old new

pub record TakesUntil (old new : Exchange) : Type 0 where
  pub calls : List Call
  pub part : ItemsPartUntil (side_of old) calls (side_of new)
  pub runs : Runs old calls new

abbrev pub TakesEach : Exchange → Result Bool AllocError → Exchange → Type 0
TakesEach old (Ok idle) new = TakesAll old new idle
TakesEach old (Err refused) new = TakesUntil old new

-- ---- the close

-- only what the engine knows of the gate may have changed
pub record OnlyView (old new : Exchange) : Type 0 where
  pub core : new.core ≡ old.core
  pub kept : notes_in new ≡ notes_in old
  pub sides : SameSides old new
  pub mail : SameMail old new
  pub lanes : SameLanes old new
  pub closed : SameClosed old new

pub record Closes (old new : Exchange) : Type 0 where
  pub runs : Runs old (Close ∷ []) new
  pub closed : new.closed ≡ true
  pub intake : new.intake ≡ old.intake
  pub items : new.items.items ≡ old.items.items
  pub reports : new.reports.items ≡ old.reports.items

-- ---- the first part of a turn

pub record TakesAndCloses (old new : Exchange) (idle : Bool) : Type 0 where
  pub calls : List Call
  pub closes : Bool
  pub part : ItemsPart (senders_of old) (side_of old) closes calls (side_of new)
  pub runs : Runs old calls new
  pub enough : (k : ℕ) → k < senders_of old → TookEnough k (side_of old k) (side_of new k) new.intake
  pub closed : new.closed ≡ (old.closed || closes)
  -- it closes at most once, and only where no sender could send any more before all was taken
  pub only : IsTrue closes → (old.closed ≡ false) × IsQuiet new × AreIdle new
  pub must : (closes ≡ true) ⊎ MayStayOpen old new
  pub found : IsTrue idle → AreIdle new
  pub busy : (idle ≡ true) ⊎ SomeBusy old new

abbrev pub TakesItems : Exchange → Result Bool AllocError → Exchange → Type 0
TakesItems old (Ok idle) new = TakesAndCloses old new idle
TakesItems old (Err refused) new = TakesUntil old new × SameClosed old new

-- ---- one sender's reports

-- the sender's oldest report was fetched, or there is none
abbrev pub FetchesOne : ℕ → Exchange → Option Report → Exchange → Type 0
FetchesOne i old (Some r) new =
    Runs old (Fetch i (Some r) ∷ []) new × (r.sender ≡ i) × (waiting_of old.core i ≡ r ∷ waiting_of new.core i)
FetchesOne i old None new = Runs old [] new × (waiting_of new.core i ≡ [])

-- Only what was handed to the sender may have changed, and what is held for it.
pub record OnlyMail (i : ℕ) (old new : Exchange) : Type 0 where
  pub core : new.core ≡ old.core
  pub kept : notes_in new ≡ notes_in old
  pub sides : SameSides old new
  pub others : (k : ℕ) → k ≢ i → mail_of new k ≡ mail_of old k
  pub lanes : SameLanes old new
  pub view : intake_view new.intake ≡ intake_view old.intake
  pub closed : SameClosed old new

-- the report was handed over, or is held back since the ring was full
abbrev pub HandsOne : ℕ → Report → Exchange → Bool → Exchange → Type 0
HandsOne i r old true new =
    ((mail_of new i).told ≡ (mail_of old i).told ++ r ∷ []) × ((mail_of new i).held ≡ (mail_of old i).held)
HandsOne i r old false new =
    ((mail_of new i).told ≡ (mail_of old i).told) × ((mail_of new i).held ≡ Some r) × WasFull i new.intake

-- Only the sender's reports may have changed, and the core by what was fetched of them.
pub record OnlyReports (i : ℕ) (old new : Exchange) : Type 0 where
  pub sides : SameSides old new
  pub others : (k : ℕ) → k ≢ i → mail_of new k ≡ mail_of old k
  pub waiting : (k : ℕ) → k ≢ i → waiting_of new.core k ≡ waiting_of old.core k
  pub lanes : SameLanes old new
  pub view : intake_view new.intake ≡ intake_view old.intake
  pub closed : SameClosed old new

-- the sender's part: all that waited was handed over, or one is held back since the ring was full
pub record SendsSome (i : ℕ) (old new : Exchange) (all : Bool) : Type 0 where
  pub calls : List Call
  pub part : MailPart i (mail_of old i) calls (mail_of new i)
  pub runs : Runs old calls new
  pub moved : HasMoved i new
  pub none_held : IsTrue all → (mail_of new i).held ≡ None
  pub held : (all ≡ true) ⊎ IsSome (mail_of new i).held

-- the sender's part until memory was refused
pub record SendsUntil (i : ℕ) (old new : Exchange) : Type 0 where
  pub calls : List Call
  pub part : MailPart i (mail_of old i) calls (mail_of new i)
  pub runs : Runs old calls new

abbrev pub SendsFrom : ℕ → Exchange → Result Bool AllocError → Exchange → Type 0
SendsFrom i old (Ok all) new = SendsSome i old new all
SendsFrom i old (Err refused) new = SendsUntil i old new

-- ---- all senders' reports

-- nothing but reports may have changed, and the core
pub record OnlyMails (old new : Exchange) : Type 0 where
  pub sides : SameSides old new
  pub lanes : SameLanes old new
  pub view : intake_view new.intake ≡ intake_view old.intake
  pub closed : SameClosed old new

pub record SendsAll (old new : Exchange) (all : Bool) : Type 0 where
  pub calls : List Call
  pub parts : MailParts (senders_of old) (mail_of old) calls (mail_of new)
  pub runs : Runs old calls new
  pub moved : (k : ℕ) → k < senders_of new → HasMoved k new
  pub none_held : IsTrue all → (k : ℕ) → k < senders_of new → (mail_of new k).held ≡ None
  pub held : (all ≡ true) ⊎ SomeHeld new

-- the parts of so many senders, until memory was refused in the last one's
pub record SendsAllUntil (old new : Exchange) : Type 0 where
  pub senders : ℕ
  pub calls : List Call
  pub parts : MailParts senders (mail_of old) calls (mail_of new)
  pub later : (k : ℕ) → senders ≤ k → mail_of new k ≡ mail_of old k
  pub runs : Runs old calls new

abbrev pub SendsEach : Exchange → Result Bool AllocError → Exchange → Type 0
SendsEach old (Ok all) new = SendsAll old new all
SendsEach old (Err refused) new = SendsAllUntil old new
