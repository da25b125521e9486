-- A partition's places as its queue changes, and what its marks and its ids tell.
use Rattle.std.proofs.Common.{◌≡◌, ◌∙◌, ℕ, suc, ◌-◌, ◌≤◌, Bool, true, false, List, [], ◌∷◌, ◌++◌, length, map, get_or, Option, Some, None, refl, sym, ap, arith}
use Rattle.std.specs.Prelude.{IfSome, unwrap_or, nat_lt, ◌||◌, ◌==◌}
use Rattle.std.specs.List.{list_any, last_or}
use Rattle.std.proofs.lemmas.Bool.Decides.{nat_tests}
use Rattle.kp_accum.specs.Queue.{Pending, marked_by_flush, is_marked, marked_in}
use Rattle.kp_rules.specs.Flush.{has_marks}
use Rattle.kp_rules.specs.Partitions.{items_queued, is_empty}
use Rattle.kp_parts.specs.PartitionRooms.{Audit, HasRooms, IsAuditFor}
use Rattle.kp_rules.specs.Records.{Partition}

-- ---- marks

pub items_queued-marked : (q : List Pending) → items_queued (map marked_by_flush q) ≡ items_queued q
items_queued-marked [] = refl
items_queued-marked (b ∷ bs) = ap (λ z. b.items ++ z) (items_queued-marked bs)

positive : (n : ℕ) → nat_lt 0 (suc n) ≡ true
positive n = grind (arith, nat_tests)

pub any_marked-in : (q : List Pending) → list_any is_marked q ≡ nat_lt 0 (marked_in q)
any_marked-in [] = refl
any_marked-in (b ∷ bs) = at_test b.marked refl (any_marked-in bs)
  where
    at_test : (m : Bool) → b.marked ≡ m → list_any is_marked bs ≡ nat_lt 0 (marked_in bs) → list_any is_marked (b ∷ bs) ≡ nat_lt 0 (marked_in (b ∷ bs))
    at_test true e rest = rw e (sym (positive (marked_in bs)))
    at_test false e rest = rw e rest

pub has_marks-is : (t : Partition) → has_marks t ≡ (nat_lt 0 (marked_in t.queue) || list_any (λ o. o.marked) t.open_batches)
unfolding has_marks
has_marks-is t = ap (λ (z : Bool). z || list_any (λ o. o.marked) t.open_batches) (any_marked-in t.queue)

pub rooms-marked : (q : List Pending) (capacity capacity' : ℕ) (ids : List ℕ) (next_number : ℕ) (audit : Option Audit) (items : ℕ)
    → capacity' ≡ capacity → HasRooms q capacity ids next_number audit items → HasRooms (map marked_by_flush q) capacity' ids next_number audit items
rooms-marked q capacity capacity' ids next_number audit items e rooms = record {
  open_room = omega (arith, e, rooms.open_room);
  known = rooms.known;
  queued = rooms.queued ∙ ap length (sym (items_queued-marked q));
  audit = rooms.audit;
}

-- where fewer items are queued
pub rooms-fewer : (q q' : List Pending) (capacity capacity' : ℕ) (ids : List ℕ) (next_number : ℕ) (audit : Option Audit) (items items' : ℕ)
    → capacity ≤ capacity' → items' ≡ length (items_queued q') → items' ≤ items → HasRooms q capacity ids next_number audit items
    → HasRooms q' capacity' ids next_number audit items'
rooms-fewer q q' capacity capacity' ids next_number audit items items' le e fewer rooms = record {
  open_room = omega (arith, le, rooms.open_room);
  known = rooms.known;
  queued = e;
  audit = at_audit audit rooms.audit;
}
  where
    at_audit : (a : Option Audit) → IfSome a (IsAuditFor items next_number) → IfSome a (IsAuditFor items' next_number)
    at_audit None h = tt
    at_audit (Some a) h = record { room = omega (arith, fewer, h.room); counts = h.counts }

-- ---- lists

pub is_empty-is : {A : Type 0} (xs : List A) → is_empty xs ≡ (length xs == 0)
is_empty-is [] = refl
is_empty-is (x ∷ xs) = grind (arith, nat_tests)

last_or-at : (o : Option ℕ) (x : ℕ) (xs : List ℕ) → last_or o (x ∷ xs) ≡ Some (get_or (x ∷ xs) (length xs) 0)
last_or-at o x [] = refl
last_or-at o x (y ∷ ys) = last_or-at (Some x) y ys

pub last_id-is : (ids : List ℕ) → 1 ≤ length ids → get_or ids (length ids - 1) 0 ≡ unwrap_or (last_or None ids) 0
last_id-is [] some = absurd (omega arith)
last_id-is (x ∷ xs) some =
    let at : length (x ∷ xs) - 1 ≡ length xs = omega arith in
    ap (λ (n : ℕ). get_or (x ∷ xs) n 0) at ∙ ap (λ (z : Option ℕ). unwrap_or z 0) (sym (last_or-at None x xs))
