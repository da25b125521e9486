-- What the lanes gave.
use Rattle.std.proofs.Common.{◌≡◌, ℕ, zero, suc, ◌<◌, List, [], ◌∷◌, ◌++◌, length, map, get_or, refl, sym, ap, ◌∙◌, subst}
use Rattle.std.specs.Prelude.{◌⊎◌, ◌+◌, Option, Some, None, IfSome, IfNone, slice_set}
use Rattle.std.proofs.lemmas.List.{length-map, get_or-set_same}
use Rattle.kp_accum.specs.declared.item.Item.{Item}
use Rattle.kp_lanes.specs.Entries.{items_of}
use Rattle.kp_lanes.specs.Intake.{lanes_of, common_of, intake_limits, taken_lists, taken_of, passed_of, seen_of, places_of}
use Rattle.kp_lanes.specs.Limits.{Meets}
use Rattle.kp_lanes.specs.Port.{HasNothing, passed, port_id, taken}
use Rattle.kp_lanes.specs.declared.intake.Intake.{Intake}
use Rattle.kp_lanes.specs.declared.intake.port.Port.{Port}
use Rattle.kp_engine.specs.Agreement.{Serves}
use Rattle.kp_engine.specs.Steps.{TakesOne}
use Rattle.kp_engine.specs.declared.exchange.Exchange.{Exchange}
use Rattle.kp_engine.proofs.AgreementLemmas.{may_from}

taken_at : (ps : List Port) (i : ℕ) → get_or (map taken ps) i [] ≡ items_of (get_or (map passed ps) i [])
taken_at [] i = refl
taken_at (p ∷ ps) zero = refl
taken_at (p ∷ ps) (suc i) = taken_at ps i

pub taken_is : (t : Intake) (i : ℕ) → taken_of t i ≡ items_of (passed_of t i)
taken_is t i = taken_at t.ports.items i

taken_there : (t : Intake) (i : ℕ) → i < length (lanes_of t) → i < length (taken_lists t)
taken_there t i near = subst (λ (n : ℕ). i < n) (length-map t.ports.items (port_id (common_of t)) ∙ sym (length-map t.ports.items taken)) near

-- an item that was taken
took_some : (a b : Intake) (i : ℕ) (x : Item) → i < length (lanes_of a) → taken_lists b ≡ slice_set (taken_lists a) i (taken_of a i ++ x ∷ [])
    → items_of (passed_of b i) ≡ items_of (passed_of a i) ++ x ∷ []
took_some a b i x near is =
    sym (taken_is b i) ∙ ap (λ (l : List (List Item)). get_or l i []) is ∙ get_or-set_same (taken_lists a) i (taken_of a i ++ x ∷ []) [] (taken_there a i near)
    ∙ ap (λ (xs : List Item). xs ++ x ∷ []) (taken_is a i)

took_none : (a b : Intake) (i : ℕ) → taken_lists b ≡ taken_lists a → items_of (passed_of b i) ≡ items_of (passed_of a i)
took_none a b i is = sym (taken_is b i) ∙ ap (λ (l : List (List Item)). get_or l i []) is ∙ taken_is a i

pub takes_one : (i : ℕ) (a b : Exchange) (o : Option Item) → i < length (lanes_of a.intake) → i < length b.core.reports → Serves b.core (intake_limits a.intake)
    → IfSome o (λ x. taken_lists b.intake ≡ slice_set (taken_lists a.intake) i (taken_of a.intake i ++ x ∷ []))
    → IfSome o (λ x. Meets (intake_limits a.intake) i x)
    → IfNone o (taken_lists b.intake ≡ taken_lists a.intake)
    → IfNone o (HasNothing (intake_limits a.intake) i (seen_of b.intake i) ⊎ (length (passed_of b.intake i) ≡ length (passed_of a.intake i) + places_of a.intake i))
    → TakesOne i a o b
takes_one i a b (Some x) near sender serves some meets none nothing =
    (took_some a.intake b.intake i x near some, meets.its_sender, may_from x b.core (intake_limits a.intake) i serves sender meets)
takes_one i a b None near sender serves some meets none nothing = (
  took_none a.intake b.intake i none,
  record { before = a.intake; after = b.intake; nothing = nothing; lanes = refl; same_view = refl; since = refl },
)
