-- What a chart changes.
use Rattle.std.proofs.Common.{◌≡◌, refl, sym, ap, ◌∙◌, ℕ, zero, suc, ◌+◌, ◌<◌, ◌≤◌, Bool, true, false, Option, Some, None, List, [], ◌∷◌, ◌++◌, length, take, drop, get_or, length-append, nat_lt, arith}
use Rattle.std.specs.Prelude.{slice_set, if◌then◌else◌}
use Rattle.std.specs.List.{list_any}
use Rattle.std.proofs.lemmas.Bool.Decides.{nat_tests}
use Rattle.kp_hello.specs.declared.Node.{Node}
use Rattle.kp_cluster.specs.Slots.{changed}
use Rattle.kp_cluster.proofs.SlotLemmas.{changed_length}
use Rattle.kp_cluster.specs.declared.slot.Slot.{Slot}
use Rattle.kp_cluster.specs.Learning.{SLOT_LIMIT, slot_of, renewed, new_slot, placed_at, placed, all_placed, is_slot, marked_from}

pub none_either_way : (b : Bool) (o : Option ℕ) → o ≡ None → None ≡ (if b then o else None)
none_either_way true o e = sym e
none_either_way false o e = refl

-- ---- brokers

pub placed_known : (node : Node) (slots : List Slot) (n : ℕ) → slot_of node.id slots ≡ Some n
    → changed (renewed node) n slots ≡ placed slots node
placed_known node slots n known = sym (ap (placed_at node slots) known)

pub placed_new : (node : Node) (slots : List Slot) → slot_of node.id slots ≡ None → length slots < SLOT_LIMIT
    → slots ++ new_slot node ∷ [] ≡ placed slots node
placed_new node slots unknown room =
    let here : nat_lt (length slots) SLOT_LIMIT ≡ true = grind (arith, nat_tests) in
    sym (ap (placed_at node slots) unknown ∙ ap (λ (b : Bool). if b then slots ++ new_slot node ∷ [] else slots) here)

pub placed_nowhere : (node : Node) (slots : List Slot) → slot_of node.id slots ≡ None → SLOT_LIMIT ≤ length slots
    → slots ≡ placed slots node
placed_nowhere node slots unknown full =
    let here : nat_lt (length slots) SLOT_LIMIT ≡ false = grind (arith, nat_tests) in
    sym (ap (placed_at node slots) unknown ∙ ap (λ (b : Bool). if b then slots ++ new_slot node ∷ [] else slots) here)

-- slots are not taken away

grows_if : (b : Bool) (slots : List Slot) (s : Slot) → length slots ≤ length (if b then slots ++ s ∷ [] else slots)
grows_if true slots s = rw (length-append slots (s ∷ [])) (omega arith)
grows_if false slots s = omega arith

grows_at : (node : Node) (slots : List Slot) (o : Option ℕ) → length slots ≤ length (placed_at node slots o)
grows_at node slots None = grows_if (nat_lt (length slots) SLOT_LIMIT) slots (new_slot node)
grows_at node slots (Some n) = omega (arith, changed_length (renewed node) n slots)

pub all_placed_grows : (nodes : List Node) (slots : List Slot) → length slots ≤ length (all_placed nodes slots)
all_placed_grows [] slots = omega arith
all_placed_grows (node ∷ nodes) slots =
    omega (arith, grows_at node slots (slot_of node.id slots), all_placed_grows nodes (placed slots node))

-- ---- marks

abbrev pub mark : List (Option ℕ) → ℕ → Slot → Slot
mark leaders k s = record s { leads = list_any (is_slot k) leaders }

-- where the first i are marked, the next one is as it was
pub marked_get : (leaders : List (Option ℕ)) (n i : ℕ) (xs : List Slot) (d : Slot) → i < length xs
    → get_or (marked_from n leaders (take i xs) ++ drop i xs) i d ≡ get_or xs i d
marked_get leaders n i [] d below = absurd (omega (arith, below))
marked_get leaders n zero (x ∷ xs) d below = refl
marked_get leaders n (suc i) (x ∷ xs) d below = marked_get leaders (suc n) i xs d (omega (arith, below))

-- and once it is marked, one more are
pub marked_put : (leaders : List (Option ℕ)) (n k i : ℕ) (xs : List Slot) (d : Slot) → k ≡ n + i → i < length xs
    → slice_set (marked_from n leaders (take i xs) ++ drop i xs) i (mark leaders k (get_or xs i d)) ≡ marked_from n leaders (take (suc i) xs) ++ drop (suc i) xs
marked_put leaders n k i [] d e below = absurd (omega (arith, below))
marked_put leaders n k zero (x ∷ xs) d e below =
    let here : k ≡ n = omega (arith, e) in ap (λ j. mark leaders j x ∷ xs) here
marked_put leaders n k (suc i) (x ∷ xs) d e below =
    ap (λ (rest : List Slot). mark leaders n x ∷ rest) (marked_put leaders (suc n) k i xs d (omega (arith, e)) (omega (arith, below)))
