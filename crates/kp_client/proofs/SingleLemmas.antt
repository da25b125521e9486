-- A producer with one sender.
use Rattle.std.proofs.Common.{◌≡◌, ℕ, List, [], ◌∷◌, ◌++◌, length, length-append, refl, sym, ap, ◌∙◌, subst, arith}
use Rattle.std.specs.Prelude.{All, slice_index_or}
use Rattle.std.proofs.lemmas.List.{length-map}
use Rattle.std.proofs.lemmas.List.Elements.{All-nil, All-cons}
use Rattle.kp_engine.specs.declared.parts.Parts.{Parts}
use Rattle.kp_lanes.specs.Intake.{lanes_of}
use Rattle.kp_lanes.specs.Lane.{LaneId}
use Rattle.kp_lanes.specs.Sender.{finished_id, finished_number}
use Rattle.kp_lanes.specs.Settling.{EachOnce, IsOf, SameFinished}
use Rattle.kp_lanes.specs.declared.fault.SettleFault.{SettleFault}
use Rattle.kp_lanes.specs.declared.fault.SettleFault.TheVariants.{Missing, OutOfMemory}
use Rattle.kp_lanes.specs.declared.sender.Finished.{Finished}
use Rattle.kp_client.specs.Ends.{ComesBack}
use Rattle.kp_client.specs.Left.{parts_in, IsOnly, IsWhy}
use Rattle.kp_client.specs.declared.left.Ended.{Ended}

-- what holds of all holds of the only one
pub only_of : {A : Type 0} (P : A → Type 0) (all : List A) (x : A) → all ≡ x ∷ [] → All P all → P x
only_of P all x is h = subst (λ l. All P l) is h 0 x (omega (arith))

-- what holds of the only one holds of all
pub all_one : {A : Type 0} (P : A → Type 0) (all : List A) (x : A) → all ≡ x ∷ [] → P x → All P all
all_one P all x is h = subst (λ l. All P l) (sym is) (All-cons P x [] h (All-nil P))

-- the last of one is the only one
pub last_only : {A : Type 0} (all rest : List A) (x : A) → length all ≡ 1 → all ≡ rest ++ x ∷ [] → all ≡ x ∷ []
last_only all [] x one is = is
last_only all (y ∷ rest) x one is = let l = ap length is in let m = length-append (y ∷ rest) (x ∷ []) in absurd (omega (arith, one, l, m))

pub only_lane : (lanes : List LaneId) (n : ℕ) (id : LaneId) → n ≡ 0 → length lanes ≡ 1 → slice_index_or lanes n id ≡ id → lanes ≡ id ∷ []
only_lane [] n id zero one at = absurd (omega (arith, one))
only_lane (x ∷ []) n id zero one at = ap (λ (y : LaneId). y ∷ []) (ap (λ (k : ℕ). slice_index_or (x ∷ []) k id) (sym zero) ∙ at)
only_lane (x ∷ y ∷ lanes) n id zero one at = absurd (omega (arith, one))

pub only_is_of : (parts : Parts) (f : Finished) → IsOnly parts f → IsOf (lanes_of parts.intake) f
only_is_of parts f only =
    let number = only.number in
    subst (λ l. IsOf l f) (sym only.lane) (
      omega (arith, number),
      ap (λ (k : ℕ). slice_index_or (finished_id f ∷ []) k (finished_id f)) number,
    )

-- what came back of one is one
pub back_one : (f : Finished) (back rest : List Finished) (g : Finished) → SameFinished (f ∷ []) back → back ≡ rest ++ g ∷ [] → back ≡ g ∷ []
back_one f back rest g same is = last_only back rest g (sym (length-map back finished_number) ∙ ap length same.numbers) is

-- what came back of one is not nothing
pub some_back : (f : Finished) (back : List Finished) → SameFinished (f ∷ []) back → length back ≡ 0 → ⊥
some_back f back same none = let one = sym (length-map back finished_number) ∙ ap length same.numbers in omega (arith, one, none)

pub still_only : (old new : Ended) (f g : Finished) → ComesBack old (f ∷ []) new (g ∷ []) → IsOnly (parts_in old) f → IsOnly (parts_in new) g
still_only old new f g back only =
    let id : finished_id g ≡ finished_id f = ap (λ l. slice_index_or l 0 (finished_id f)) back.same_finished.ids in
    let number : finished_number g ≡ finished_number f = ap (λ l. slice_index_or l 0 0) back.same_finished.numbers in
    record { lane = back.same_lanes ∙ only.lane ∙ ap (λ (i : LaneId). i ∷ []) (sym id); number = number ∙ only.number }

pub is_why : (parts : Parts) (fs : List Finished) (fault : SettleFault) → (fault ≡ Missing → ¬ EachOnce (length (lanes_of parts.intake)) fs)
    → ((fault ≡ Missing → ⊥) → EachOnce (length (lanes_of parts.intake)) fs) → IsWhy parts fs fault
is_why parts fs Missing missing other = missing refl
is_why parts fs OutOfMemory missing other = other (λ is. absurd cc)
