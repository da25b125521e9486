-- A slot that is changed, by its place in the list.
use Rattle.std.proofs.Common.{◌≡◌, refl, ap, ℕ, zero, suc, ◌<◌, ◌≤◌, List, [], ◌∷◌, length, get_or, arith}
use Rattle.std.specs.Prelude.{slice_set}
use Rattle.kp_cluster.specs.declared.slot.Slot.{Slot}
use Rattle.kp_cluster.specs.Slots.{changed}

-- where it is there, the changed one is put in its place
pub changed_at : (f : Slot → Slot) (n : ℕ) (slots : List Slot) (d : Slot) → n < length slots
    → slice_set slots n (f (get_or slots n d)) ≡ changed f n slots
changed_at f n [] d below = absurd (omega (arith, below))
changed_at f zero (t ∷ slots) d below = refl
changed_at f (suc n) (t ∷ slots) d below = ap (λ (rest : List Slot). t ∷ rest) (changed_at f n slots d (omega (arith, below)))

-- where it is not, all stay
pub changed_past : (f : Slot → Slot) (n : ℕ) (slots : List Slot) → length slots ≤ n → slots ≡ changed f n slots
changed_past f n [] past = refl
changed_past f zero (t ∷ slots) past = absurd (omega (arith, past))
changed_past f (suc n) (t ∷ slots) past = ap (λ (rest : List Slot). t ∷ rest) (changed_past f n slots (omega (arith, past)))

pub changed_length : (f : Slot → Slot) (n : ℕ) (slots : List Slot) → length (changed f n slots) ≡ length slots
changed_length f n [] = refl
changed_length f zero (t ∷ slots) = refl
changed_length f (suc n) (t ∷ slots) = ap suc (changed_length f n slots)
