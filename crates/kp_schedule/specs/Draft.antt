-- A schedule whose lines are read one by one.
use Rattle.std.specs.Prelude.{◌≡◌, ℕ, List, [], ◌∷◌, ◌++◌, map, Result, Ok, Err, IfSome}
use Rattle.kp_schedule.specs.Grammar.{MayBeSet, Says}
use Rattle.kp_schedule.specs.Lines.{Text}
use Rattle.kp_schedule.specs.Reading.{At, Drafted, MayStand, value_of}
use Rattle.kp_schedule.specs.declared.fault.ReplayFault.{ReplayFault}
use Rattle.kp_schedule.specs.declared.fault.ReplayFault.TheVariants.{BadLine, OutOfMemory}
use Rattle.kp_schedule.specs.declared.given.Given.{Given}
use Rattle.kp_schedule.specs.declared.saying.Saying.{Saying}
use Rattle.kp_schedule.specs.declared.saying.Saying.TheVariants.{Nothing, Sets, Happens}
use Rattle.kp_schedule.specs.declared.schedule.Scheduled.{Scheduled}
use Rattle.kp_schedule.specs.declared.setting.Setting.{Setting}

abbrev pub at : Scheduled → At
at s = record { line = s.line; event = s.event }

abbrev pub seen : List Given → List Scheduled → Drafted
seen given events = record { settings = given; events = map at events }

-- the line of this number says this, too
abbrev pub with_saying : ℕ → Saying → Drafted → Drafted
with_saying n Nothing d = d
with_saying n (Sets name value) d =
    record d { settings = d.settings ++ (record { name = name; value = value }) ∷ [] }
with_saying n (Happens e) d =
    record d { events = d.events ++ (record { line = n; event = e }) ∷ [] }

-- What one more saying of this line makes of a draft.
abbrev pub Takes : Drafted → ℕ → Saying → Result (Unit {0}) ReplayFault → Drafted → Type 0
Takes old n x (Ok done) new = MayStand old x × (new ≡ with_saying n x old)
Takes old n x (Err (BadLine k)) new = (k ≡ n) × (MayStand old x → ⊥)
Takes old n x (Err OutOfMemory) new = Unit {0}
Takes old n x (Err _) new = ⊥

-- What reading this line makes of it. Memory is wanted for a line that is understood.
abbrev pub ReadsNext : Drafted → ℕ → Text → Result (Unit {0}) ReplayFault → Drafted → Type 0
ReadsNext old n line (Ok done) new =
    (x : Saying) × Says line x × MayStand old x × (new ≡ with_saying n x old)
ReadsNext old n line (Err (BadLine k)) new =
    (k ≡ n) × ((x : Saying) → Says line x → MayStand old x → ⊥)
ReadsNext old n line (Err OutOfMemory) new = (x : Saying) × Says line x
ReadsNext old n line (Err _) new = ⊥

-- This was set to what it may be, if it was.
abbrev pub IsSetWell : Setting → List Given → Type 0
IsSetWell name given = IfSome (value_of name given) (MayBeSet name)
