-- Plans and the numbers in them.
use Rattle.std.proofs.Common.{◌≡◌, ℕ, Bool, true, false, cond, ◌||◌, eqb, List, [], ◌∷◌, ◌++◌, Some, is_some, is_eq, refl, sym, ap, ◌∙◌, arith, Ordering, Less, Equal, Greater}
use Rattle.std.specs.Ordering.{nat_cmp, match_ordering}
use Rattle.std.specs.BTreeMap.{insert_entry}
use Rattle.std.proofs.lemmas.Bool.Decides.{nat_tests}
use Rattle.std.proofs.lemmas.List.Sums.{fold-append}
use Rattle.kp_broker.specs.declared.plan.action.Action.{Action}
use Rattle.kp_broker.specs.Plan.{Plan, Entry, number_of, action_of, planned, in_order}

or_twice : (a b : Bool) → (a || b) ≡ (a || (a || b))
or_twice true b = refl
or_twice false b = refl

or_swapped : (a b c : Bool) → (a || (b || c)) ≡ (b || (a || c))
or_swapped true true c = refl
or_swapped true false c = refl
or_swapped false b c = refl

is_eq-nat_cmp : (n k : ℕ) → is_eq (nat_cmp n k) ≡ eqb n k
is_eq-nat_cmp n k = grind (arith, nat_tests)

same_number : (k n : ℕ) → nat_cmp k n ≡ Equal → k ≡ n
same_number k n is = grind (arith, nat_tests)

-- whether something is planned for the request of this number
abbrev pub is_planned : Plan → ℕ → Bool
is_planned plan n = is_some (planned plan n)

is_planned-at : (b : Bool) (e : Entry) (es : Plan) (n : ℕ) → is_some (cond b (Some (action_of e)) (planned es n)) ≡ (b || is_planned es n)
is_planned-at true e es n = refl
is_planned-at false e es n = refl

is_planned-cons : (e : Entry) (es : Plan) (n : ℕ) → is_planned (e ∷ es) n ≡ (eqb n (number_of e) || is_planned es n)
is_planned-cons e es n = is_planned-at (is_eq (nat_cmp n (number_of e))) e es n ∙ ap (λ b. b || is_planned es n) (is_eq-nat_cmp n (number_of e))

is_planned-inserted : (e : Entry) (es : Plan) (k : ℕ) (a : Action) (n : ℕ) (o : Ordering) → nat_cmp k (number_of e) ≡ o → is_planned (insert_entry nat_cmp es k a) n ≡ (eqb n k || is_planned es n)
    → is_planned (match_ordering o ((k, a) ∷ e ∷ es) ((e.0, a) ∷ es) (e ∷ insert_entry nat_cmp es k a)) n ≡ (eqb n k || is_planned (e ∷ es) n)
is_planned-inserted e es k a n Less is others = is_planned-cons (k, a) (e ∷ es) n
is_planned-inserted e es k a n Equal is others =
    let same = same_number k (number_of e) is in
    is_planned-cons (e.0, a) es n
    ∙ or_twice (eqb n e.0) (is_planned es n)
    ∙ ap (λ b. eqb n e.0 || b) (sym (is_planned-cons e es n))
    ∙ ap (λ k. eqb n k || is_planned (e ∷ es) n) (sym same)
is_planned-inserted e es k a n Greater is others =
    is_planned-cons e (insert_entry nat_cmp es k a) n
    ∙ ap (λ b. eqb n e.0 || b) others
    ∙ or_swapped (eqb n e.0) (eqb n k) (is_planned es n)
    ∙ ap (λ b. eqb n k || b) (sym (is_planned-cons e es n))

-- one more entry plans for its number, and for those that were planned
pub is_planned-insert_entry : (plan : Plan) (k : ℕ) (a : Action) (n : ℕ) → is_planned (insert_entry nat_cmp plan k a) n ≡ (eqb n k || is_planned plan n)
is_planned-insert_entry [] k a n = is_planned-cons (k, a) [] n
is_planned-insert_entry (e ∷ es) k a n = is_planned-inserted e es k a n (nat_cmp k e.0) refl (is_planned-insert_entry es k a n)

pub in_order-push : (entries : List Entry) (e : Entry) → in_order (entries ++ e ∷ []) ≡ insert_entry nat_cmp (in_order entries) (number_of e) (action_of e)
in_order-push entries e = fold-append (λ (plan : Plan) (e : Entry). insert_entry nat_cmp plan (number_of e) (action_of e)) [] entries (e ∷ [])
