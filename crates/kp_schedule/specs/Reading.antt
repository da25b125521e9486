-- What the lines of a schedule come to, line by line.
use Rattle.std.specs.Prelude.{◌≡◌, ℕ, ◌+◌, List, [], ◌∷◌, ◌++◌, Option, Some, None, unwrap_or, bytes_eq, if◌then◌else◌}
use Rattle.kp_world.specs.declared.event.Event.{Event}
use Rattle.kp_schedule.specs.Grammar.{Says, name_of}
use Rattle.kp_schedule.specs.Lines.{Text}
use Rattle.kp_schedule.specs.declared.given.Given.{Given}
use Rattle.kp_schedule.specs.declared.saying.Saying.{Saying}
use Rattle.kp_schedule.specs.declared.saying.Saying.TheVariants.{Nothing, Sets, Happens}
use Rattle.kp_schedule.specs.declared.setting.Setting.{Setting}

-- ---- what was set, and what is to happen

abbrev pub settings_in : List Saying → List Given
settings_in [] = []
settings_in (Nothing ∷ xs) = settings_in xs
settings_in (Sets name n ∷ xs) = (record { name = name; value = n }) ∷ settings_in xs
settings_in (Happens e ∷ xs) = settings_in xs

-- an event, and the line that says it
pub record At : Type 0 where
  pub line : ℕ
  pub event : Event

-- the events of lines that are counted from n
abbrev pub events_from : ℕ → List Saying → List At
events_from n [] = []
events_from n (Nothing ∷ xs) = events_from (n + 1) xs
events_from n (Sets name value ∷ xs) = events_from (n + 1) xs
events_from n (Happens e ∷ xs) = (record { line = n; event = e }) ∷ events_from (n + 1) xs

pub record Drafted : Type 0 where
  pub settings : List Given
  pub events : List At

-- what a schedule's lines come to, of which the first has number 1
abbrev pub drafted : List Saying → Drafted
drafted xs = record { settings = settings_in xs; events = events_from 1 xs }

-- ---- settings

-- what this was set to, if it was
abbrev pub value_of : Setting → List Given → Option ℕ
value_of name [] = None
value_of name (g ∷ gs) =
    if bytes_eq (name_of g.name) (name_of name) then Some g.value else value_of name gs

abbrev pub set_or : Setting → ℕ → List Given → ℕ
set_or name default gs = unwrap_or (value_of name gs) default

-- ---- line by line

-- What may be said behind this: a setting stands before all events, and is made once.
abbrev pub MayStand : Drafted → Saying → Type 0
MayStand d (Sets name n) = (d.events ≡ []) × (value_of name d.settings ≡ None)
MayStand d x = Unit {0}

abbrev pub MayFollow : List Saying → Saying → Type 0
MayFollow before x = MayStand (drafted before) x

-- Behind what was said before, these lines say this.
abbrev pub Say : List Saying → List Text → List Saying → Type 0
Say before [] [] = Unit {0}
Say before (line ∷ lines) (x ∷ xs) =
    Says line x × MayFollow before x × Say (before ++ x ∷ []) lines xs
Say before [] (x ∷ xs) = ⊥
Say before (line ∷ lines) [] = ⊥
