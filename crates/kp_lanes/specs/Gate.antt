-- The rule of the closing gate's word, and what each step tells.
use Rattle.std.specs.Prelude.{◌≡◌, ◌≢◌, ℕ, ◌+◌, ◌-◌, ◌/◌, ◌%◌, ◌≤◌, ◌==◌, ◌||◌, true, false, List, [], ◌∷◌, length, slice_index, MatchBool, if◌then◌else◌}
use mathlib.Core.Option.{some}
use lib.ListN.{get_elem?}
use Rattle.atomic_table.specs.Table.{State, Me, Step}
use Rattle.kp_lanes.specs.declared.gate.view.Stage.{Stage}
use Rattle.kp_lanes.specs.declared.gate.view.Stage.TheVariants.{Out, Trying, Inside}
use Rattle.kp_lanes.specs.declared.gate.view.View.{View}

-- 1 where the seat is trying or inside
abbrev pub stage_entered : Stage → ℕ
stage_entered Out = 0
stage_entered Trying = 1
stage_entered Inside = 1

-- 1 where the seat is inside
abbrev pub stage_inside : Stage → ℕ
stage_inside Out = 0
stage_inside Trying = 0
stage_inside Inside = 1

abbrev pub entered : View → ℕ
entered v = stage_entered v.stage

abbrev pub inside : View → ℕ
inside v = stage_inside v.stage

abbrev pub room : View → ℕ
room v = v.room

-- 1 where the seat may shut
abbrev pub shutting : View → ℕ
shutting v = if v.may_shut then 1 else 0

-- a number of each view, added up
abbrev pub total : (View → ℕ) → List View → ℕ
total f [] = 0
total f (v ∷ vs) = f v + total f vs

-- what one seat knows is so
pub record Fits (word : ℕ) (views : List View) (v : View) : Type 0 where
  pub one_room : entered v ≡ 1 → v.room ≡ 1
  pub shut : v.knows_shut ≡ true → word % 2 ≡ 1
  pub quiet : v.knows_quiet ≡ true → (word % 2 ≡ 1) × (total inside views ≡ 0)
  pub has_shut : v.may_shut ≡ true → word % 2 ≡ 1 → v.knows_shut ≡ true

-- half the word is the number of seats that are trying or inside, there is room for 64, one at most may shut, and what each
-- seat knows is so
pub record Gated (word : ℕ) (views : List View) : Type 0 where
  pub half : word / 2 ≡ total entered views
  pub rooms : total room views ≤ 64
  pub one_shuts : total shutting views ≤ 1
  pub fits : (id : ℕ) (v : View) → get_elem? views id ≡ some v → Fits word views v

abbrev pub GateState : Type 0
GateState = State (Unit {0}) View

abbrev pub Keeps : GateState → Type 0
Keeps s = (length s.words ≡ 1) × Gated (slice_index s.words 0) s.views

-- a seat that stands outside for k senders, and knows nothing
abbrev pub newcomer : ℕ → View
newcomer k = record { room = k; stage = Out; knows_shut = false; looks = 0; found = 0; knows_quiet = false; may_shut = false }

-- such a seat that may shut
abbrev pub keeper : ℕ → View
keeper k = record { room = k; stage = Out; knows_shut = false; looks = 0; found = 0; knows_quiet = false; may_shut = true }

-- the view after each step
abbrev pub admitted : View → View
admitted v = record v { stage = Inside }

abbrev pub refused : View → View
refused v = record v { stage = Trying; knows_shut = true }

abbrev pub outside : View → View
outside v = record v { stage = Out }

abbrev pub told_shut : View → View
told_shut v = record v { knows_shut = true }

abbrev pub looked : View → ℕ → View
looked v n = record v { knows_shut = v.knows_shut || (n % 2 == 1); looks = v.looks + 1; found = n; knows_quiet = v.knows_quiet || (n == 1) }

-- the view of a seat that gave room for k senders away
abbrev pub less_room : ℕ → View → View
less_room k v = record v { room = v.room - k }

-- what each step tells: of the step, the seat before, the word found and the seat after
abbrev pub Sat : Type 0
Sat = Me (Unit {0}) View

abbrev pub Entering : Step (Unit {0}) → Sat → ℕ → Sat → Type 0
Entering st m n m' = MatchBool (n % 2 == 1) (m'.0 ≡ refused m.0) ((m.0.knows_shut ≡ false) × (m'.0 ≡ admitted m.0))

abbrev pub Leaving : Step (Unit {0}) → Sat → ℕ → Sat → Type 0
Leaving st m n m' = m'.0 ≡ outside m.0

abbrev pub Shutting : Step (Unit {0}) → Sat → ℕ → Sat → Type 0
Shutting st m n m' = m'.0 ≡ told_shut m.0

abbrev pub Looking : Step (Unit {0}) → Sat → ℕ → Sat → Type 0
Looking st m n m' = (m'.0 ≡ looked m.0 n) × (m.0.may_shut ≡ true → n % 2 ≡ 1 → m.0.knows_shut ≡ true)

-- where any seat knows that the gate is quiet, no seat is inside, and none that enters gets in
abbrev pub NobodyInside : Type 0
NobodyInside = (word : ℕ) (views : List View) → Gated word views → (i j : ℕ) (v w : View) → get_elem? views i ≡ some v → get_elem? views j ≡ some w → v.knows_quiet ≡ true → (w.stage ≢ Inside) × (word % 2 ≡ 1)

-- while the seat that may shut has not, none knows the gate to be shut
abbrev pub OneShuts : Type 0
OneShuts = (word : ℕ) (views : List View) → Gated word views → (i j : ℕ) (v w : View) → get_elem? views i ≡ some v → get_elem? views j ≡ some w → v.may_shut ≡ true → v.knows_shut ≡ false → w.knows_shut ≡ false
