-- What a contract sees when both ends of each ring come together.
use Rattle.std.specs.Prelude.{◌≡◌, ◌≢◌, ℕ, ◌+◌, ◌<◌, ◌≤◌, List, [], ◌++◌, map, length, slice_index_or, vec_capacity}
use mathlib.Core.List.{IsPrefix}
use Rattle.std.specs.declared.alloc.Global.{Global}
use Rattle.std.specs.declared.vec.Vec.{Vec}
use Rattle.kp_accum.specs.declared.item.Item.{Item}
use Rattle.kp_rules.specs.declared.outcome.Report.{Report}
use Rattle.kp_lanes.specs.Intake.{passed_of, taken_of, told_of}
use Rattle.kp_lanes.specs.Lane.{LaneId}
use Rattle.kp_lanes.specs.Limits.{AreInPlace}
use Rattle.kp_lanes.specs.Port.{Common, port_id, passed, taken, told, asked_at}
use Rattle.kp_lanes.specs.Rings.{RingId, push_end, pop_end}
use Rattle.kp_lanes.specs.Sender.{finished_number, finished_id, all_entered, all_accepted, all_got}
use Rattle.kp_lanes.specs.declared.intake.Intake.{Intake}
use Rattle.kp_lanes.specs.declared.intake.port.Port.{Port}
use Rattle.kp_lanes.specs.declared.limits.Limits.{Limits}
use Rattle.kp_lanes.specs.declared.sender.Finished.{Finished}
use Rattle.kp_lanes.specs.declared.settling.Settled.{Settled}

-- it is of the lane that its number names
abbrev pub IsOf : List LaneId → Finished → Type 0
IsOf lanes f = (finished_number f < length lanes) × (slice_index_or lanes (finished_number f) (finished_id f) ≡ finished_id f)

-- each record that the sender had accepted was numbered by its place, within these limits
abbrev pub IsInPlace : Limits → Finished → Type 0
IsInPlace limits f = AreInPlace limits (finished_number f) (all_accepted f)

abbrev pub numbers : List Finished → List ℕ
numbers fs = map finished_number fs

-- no number stands there twice
abbrev pub Differ : List ℕ → Type 0
Differ ns = (j k : ℕ) → j < k → k < length ns → slice_index_or ns j 0 ≢ slice_index_or ns k 0

-- each of so many senders is there once
abbrev pub EachOnce : ℕ → List Finished → Type 0
EachOnce n fs = (length fs ≡ n) × Differ (numbers fs)

abbrev pub left_items : List (Vec Item Global) → List (List Item)
left_items vs = map (λ v. v.items) vs

abbrev pub left_reports : List (Vec Report Global) → List (List Report)
left_reports vs = map (λ v. v.items) vs

-- What a sender had accepted was taken or is left, and what was handed over to it was received or is left. What was taken out
-- of its lane, items and marks, is a beginning of what it had put in.
pub record Adds (t : Intake) (s : Settled) (f : Finished) : Type 0 where
  pub entries : IsPrefix (passed_of t (finished_number f)) (all_entered f)
  pub items : all_accepted f ≡ taken_of t (finished_number f) ++ slice_index_or (left_items s.left.items) (finished_number f) []
  pub reports : told_of t (finished_number f) ≡ all_got f ++ slice_index_or (left_reports s.reports.items) (finished_number f) []

-- ---- the ends of the rings

abbrev pub port_rings : Port → RingId × RingId
port_rings p = (pop_end p.entries, push_end p.reports)

abbrev pub finished_rings : Finished → RingId × RingId
finished_rings f = (push_end f.outbox.lane.ring, pop_end f.reports)

-- the two ends of one sender's rings
abbrev pub Meet : Port → Finished → Type 0
Meet p f = (pop_end p.entries ≡ push_end f.outbox.lane.ring) × (pop_end f.reports ≡ push_end p.reports)

-- the ends at the places i and j are of the same rings
abbrev pub MeetAt : List Port → List Finished → ℕ → ℕ → Type 0
MeetAt ps fs i j = (p : Port) (f : Finished) → slice_index_or ps i p ≡ p → slice_index_or fs j f ≡ f → Meet p f

-- the same of lists of rings
abbrev pub RingsMeet : List (RingId × RingId) → List (RingId × RingId) → ℕ → ℕ → Type 0
RingsMeet ps fs i j = (d : RingId × RingId) → slice_index_or ps i d ≡ slice_index_or fs j d

-- the number of each names the place of its rings' other ends
abbrev pub Placed : List Port → List Finished → Type 0
Placed ps fs = (j : ℕ) → j < length fs → (slice_index_or (numbers fs) j 0 < length ps) × RingsMeet (map port_rings ps) (map finished_rings fs) (slice_index_or (numbers fs) j 0) j

-- ---- what stays

-- the same ends of the same rings, and nothing was taken, told or asked
pub record SamePorts (old new : List Port) : Type 0 where
  pub rings : map port_rings new ≡ map port_rings old
  pub ids : (c : Common) → map (port_id c) new ≡ map (port_id c) old
  pub passed : map passed new ≡ map passed old
  pub taken : map taken new ≡ map taken old
  pub told : map told new ≡ map told old
  pub asked : map asked_at new ≡ map asked_at old

-- the same senders, and nothing was accepted or received
pub record SameFinished (old new : List Finished) : Type 0 where
  pub numbers : map finished_number new ≡ map finished_number old
  pub ids : map finished_id new ≡ map finished_id old
  pub rings : map finished_rings new ≡ map finished_rings old
  pub entered : map all_entered new ≡ map all_entered old
  pub accepted : map all_accepted new ≡ map all_accepted old
  pub got : map all_got new ≡ map all_got old

-- the lists are alike but at place i
abbrev pub SameBut : {X : Type 0} → ℕ → List X → List X → Type 0
SameBut {X} i xs ys = (length ys ≡ length xs) × ((k : ℕ) (d : X) → k ≢ i → slice_index_or ys k d ≡ slice_index_or xs k d)

module _ (ps : List Port) (fs : List Finished) (s : Settled) where
  abbrev number_at : ℕ → ℕ
  number_at j = slice_index_or (numbers fs) j 0

  -- of the first n that have finished there is room for all that is left
  pub record HasRooms (n : ℕ) : Type 0 where
    pub wide : (length s.left.items ≡ length ps) × (length s.reports.items ≡ length ps)
    pub empty : (i : ℕ) → (slice_index_or (left_items s.left.items) i [] ≡ []) × (slice_index_or (left_reports s.reports.items) i [] ≡ [])
    pub items : (j : ℕ) → j < n → length (slice_index_or (map all_accepted fs) j []) ≤ length (slice_index_or (map taken ps) (number_at j) []) + slice_index_or (map vec_capacity s.left.items) (number_at j) 0
    pub reports : (j : ℕ) → j < n → length (slice_index_or (map told ps) (number_at j) []) ≤ length (slice_index_or (map all_got fs) j []) + slice_index_or (map vec_capacity s.reports.items) (number_at j) 0

  -- What the sender at place j had accepted was taken or is left, and what was handed over to it was received or is left. What
  -- was taken out of its lane is a beginning of what it had put in.
  abbrev pub AddsAt : ℕ → Type 0
  AddsAt j =
      (slice_index_or (map all_accepted fs) j [] ≡ slice_index_or (map taken ps) (number_at j) [] ++ slice_index_or (left_items s.left.items) (number_at j) [])
      × (slice_index_or (map told ps) (number_at j) [] ≡ slice_index_or (map all_got fs) j [] ++ slice_index_or (left_reports s.reports.items) (number_at j) [])
      × IsPrefix (slice_index_or (map passed ps) (number_at j) []) (slice_index_or (map all_entered fs) j [])
