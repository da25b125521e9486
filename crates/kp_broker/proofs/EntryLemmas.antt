-- Which texts are entries of a plan.
use Rattle.std.proofs.Common.{◌≡◌, ◌≢◌, ℕ, ◌<◌, ◌^◌, List, [], ◌∷◌, ◌++◌, length, get_or, Option, MatchOption, Bor, ◌∙◌, append_assoc, arith, lit<}
use Rattle.std.specs.Fmt.{decimal}
use Rattle.std.proofs.lemmas.Str.Pattern.{IsSplitOnceResult, split_after}
use Rattle.kp_broker.specs.Plan.{Entry, number_of, action_of, action_text, entry_text, IsAllowed}
use Rattle.kp_broker.proofs.DecimalLemmas.{decimal-digit_at}

-- no digit is the sign behind the number
decimal-lacks_equals : (n : ℕ) → n < 2 ^ 64 → (i : ℕ) → i < length (decimal n) → get_or (decimal n) i 0 ≢ 61
decimal-lacks_equals n small i inside is = absurd (omega (arith, decimal-digit_at n i small inside))

pub entry_text-parts : (e : Entry) → entry_text e ≡ decimal (number_of e) ++ 61 ∷ action_text (action_of e)
entry_text-parts e = append_assoc (decimal (number_of e)) (61 ∷ []) (action_text (action_of e))

-- cut at the first such sign, it gives its number's text and its action's
pub entry-cut : (text : List ℕ) (r : Option (Bor (List ℕ) × Bor (List ℕ))) → IsSplitOnceResult 61 text r → (e : Entry) → IsAllowed e → text ≡ entry_text e → MatchOption r ⊥ (λ x. (x.0.now ≡ decimal (number_of e)) × (x.1.now ≡ action_text (action_of e)))
entry-cut text r cut e a is =
    split_after 61 text (decimal (number_of e)) (action_text (action_of e)) r cut (lit< tt) (is ∙ entry_text-parts e) (decimal-lacks_equals (number_of e) (omega (arith, a.number)))
