-- What contracts see of the core, the lanes and what is held between them.
use Rattle.std.specs.Prelude.{◌≡◌, ◌≢◌, ◌⊎◌, ℕ, ◌+◌, ◌<◌, true, List, [], length, None, IsSome}
use Rattle.std.specs.List.{AllByRecursion}
use Rattle.kp_lanes.specs.Entries.{items_of}
use Rattle.kp_lanes.specs.Intake.{lanes_of, intake_limits, intake_view, passed_of, asked_at_of, told_of, room_of, seen_of, places_of}
use Rattle.kp_lanes.specs.Port.{HasNothing}
use Rattle.kp_lanes.specs.declared.intake.Intake.{Intake}
use Rattle.kp_rules.specs.Calls.{Call, Life, Lives}
use Rattle.kp_rules.specs.InOrder.{IsHeld}
use Rattle.kp_engine.specs.Agreement.{held_at, waiting_of}
use Rattle.kp_engine.specs.Turn.{Side, Mail}
use Rattle.kp_engine.specs.Turned.{Noted, noted, notes_of}
use Rattle.kp_engine.specs.declared.exchange.Exchange.{Exchange}

abbrev pub senders_of : Exchange → ℕ
senders_of x = length x.items.items

abbrev pub side_of : Exchange → ℕ → Side
side_of x i = record {
  passed = passed_of x.intake i;
  asked_at = asked_at_of x.intake i;
  held = held_at x.items.items i;
}

abbrev pub mail_of : Exchange → ℕ → Mail
mail_of x i = record { told = told_of x.intake i; held = held_at x.reports.items i }

-- what is noted of the calls
abbrev pub notes_in : Exchange → Noted
notes_in x = notes_of x.notes

-- the same, where so many replies in a row named no request
abbrev pub with_strays : ℕ → Exchange → Exchange
with_strays n x = record x { notes = record x.notes { strays = n } }

-- The core was run over these calls, with values such as a program can hold, and they are noted.
pub record Runs (old : Exchange) (calls : List Call) (new : Exchange) : Type 0 where
  pub life : Life
  pub lives : Lives old.core calls life new.core
  pub held : AllByRecursion IsHeld calls
  pub kept : notes_in new ≡ noted calls (notes_in old)

-- ---- what stays

-- the lanes are the same, with their limits
pub record SameLanes (old new : Exchange) : Type 0 where
  pub lanes : lanes_of new.intake ≡ lanes_of old.intake
  pub limits : intake_limits new.intake ≡ intake_limits old.intake
  pub senders : senders_of new ≡ senders_of old

-- nothing of a sender's items has changed
abbrev pub SameSides : Exchange → Exchange → Type 0
SameSides old new = (i : ℕ) → side_of new i ≡ side_of old i

-- nothing of a sender's reports has changed
abbrev pub SameMail : Exchange → Exchange → Type 0
SameMail old new = (i : ℕ) → mail_of new i ≡ mail_of old i

abbrev pub SameClosed : Exchange → Exchange → Type 0
SameClosed old new = new.closed ≡ old.closed

-- only the core may have changed, and the notes
pub record OnlyCore (old new : Exchange) : Type 0 where
  pub intake : new.intake ≡ old.intake
  pub items : new.items.items ≡ old.items.items
  pub reports : new.reports.items ≡ old.reports.items
  pub closed : new.closed ≡ old.closed

-- ---- an empty lane

-- Nothing more was to be taken of the sender's lane: it held nothing, or as many marks were passed
-- as it has places.
pub record TookNone (i : ℕ) (new : Intake) : Type 0 where
  pub before : Intake
  pub after : Intake
  pub nothing : HasNothing (intake_limits before) i (seen_of after i)
      ⊎ (length (passed_of after i) ≡ length (passed_of before i) + places_of before i)
  pub lanes : lanes_of after ≡ lanes_of new
  pub same_view : intake_view after ≡ intake_view new
  pub since : passed_of new i ≡ passed_of after i

-- The sender's lane was found empty, and nothing of it is held.
pub record IsIdle (i : ℕ) (x : Exchange) : Type 0 where
  pub found : TookNone i x.intake
  pub none_held : held_at x.items.items i ≡ None

abbrev pub AreIdle : Exchange → Type 0
AreIdle x = (i : ℕ) → i < senders_of x → IsIdle i x

-- The sender's lane was emptied, but where one of its items is held now or was before, or 64 were taken.
abbrev pub TookEnough : ℕ → Side → Side → Intake → Type 0
TookEnough i old new intake = IsSome old.held ⊎ (IsSome new.held
    ⊎ ((length (items_of new.passed) ≡ length (items_of old.passed) + 64) ⊎ TookNone i intake))

-- One of the sender's items is held now or was before, or 64 were taken.
abbrev pub WasBusy : Side → Side → Type 0
WasBusy old new = IsSome old.held ⊎ (IsSome new.held ⊎ (length (items_of new.passed) ≡ length (items_of old.passed) + 64))

-- So it is of one of the senders.
pub record SomeBusy (old new : Exchange) : Type 0 where
  pub sender : ℕ
  pub near : sender < senders_of old
  pub busy : WasBusy (side_of old sender) (side_of new sender)

-- the gate was known to be shut, with nobody inside
abbrev pub IsQuiet : Exchange → Type 0
IsQuiet x = (intake_view x.intake).knows_quiet ≡ true

-- It was closed before, or was not found to be quiet, or a sender was busy.
abbrev pub MayStayOpen : Exchange → Exchange → Type 0
MayStayOpen old new = (old.closed ≡ true) ⊎ (((intake_view new.intake).found ≢ 1) ⊎ SomeBusy old new)

-- ---- full rings

-- A sender's report is held back.
pub record SomeHeld (x : Exchange) : Type 0 where
  pub sender : ℕ
  pub near : sender < senders_of x
  pub held : IsSome (held_at x.reports.items sender)

-- the sender's ring knew no free place
pub record WasFull (i : ℕ) (new : Intake) : Type 0 where
  pub before : Intake
  pub lanes : lanes_of before ≡ lanes_of new
  pub no_room : room_of before i ≡ 0
  pub since : told_of new i ≡ told_of before i

-- Each report was moved, but where one is held back, since the ring was full.
pub record HasMoved (i : ℕ) (x : Exchange) : Type 0 where
  pub moved : held_at x.reports.items i ≡ None → waiting_of x.core i ≡ []
  pub only_full : IsSome (held_at x.reports.items i) → WasFull i x.intake
