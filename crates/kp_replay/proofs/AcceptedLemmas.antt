-- Counts by partition.
use Rattle.std.proofs.Common.{◌≡◌, ℕ, zero, suc, ◌+◌, ◌<◌, ◌≤◌, Bool, true, false, cond, List, [], ◌∷◌, ◌++◌, length, get_or, set, eqb, min, Ok, inl, inr, refl, sym, ap, ◌∙◌, arith, length-append}
use Rattle.std.specs.Prelude.{◌||◌, nat_lt}
use Rattle.std.proofs.lemmas.Bool.{cases_lt, eqb-false, eqb-true}
use Rattle.std.proofs.lemmas.Bool.Decides.{nat_tests}
use Rattle.std.proofs.lemmas.List.{get_or-set_other, get_or-set_same}
use Rattle.std.proofs.lemmas.List.Elements.{filter-append}
use Rattle.kp_accum.specs.Config.{checked}
use Rattle.kp_accum.specs.declared.config.Config.{Config}
use Rattle.kp_accum.specs.declared.item.Item.{Item}
use Rattle.kp_rules.proofs.OrderedCallLemmas.{has_bounds}
use Rattle.kp_world.specs.Accepting.{for_partition}
use Rattle.kp_replay.specs.Accepted.{AreCounts}

-- one more count of nothing
pub none-more : (xs : List ℕ) (p : ℕ) → get_or (xs ++ 0 ∷ []) p 0 ≡ get_or xs p 0
none-more [] zero = refl
none-more [] (suc p) = refl
none-more (x ∷ xs) zero = refl
none-more (x ∷ xs) (suc p) = none-more xs p

pub few-for : (p : ℕ) (items : List Item) → length (for_partition p items) ≤ length items
few-for p [] = omega arith
few-for p (i ∷ items) = at-test (few-for p items) (eqb i.partition p)
  where
    at-test : length (for_partition p items) ≤ length items → (b : Bool) → length (cond b (i ∷ for_partition p items) (for_partition p items)) ≤ suc (length items)
    at-test few true = omega (arith, few)
    at-test few false = omega (arith, few)

-- an item more, and its count
one-for : (p : ℕ) (i : Item) → length (for_partition p (i ∷ [])) ≡ cond (eqb i.partition p) 1 0
one-for p i = at-test (eqb i.partition p)
  where
    at-test : (b : Bool) → length (cond b (i ∷ []) []) ≡ cond b 1 0
    at-test true = refl
    at-test false = refl

pub one-more : (items : List Item) (i : Item) (counts : List ℕ) → i.partition < length counts → AreCounts items counts → AreCounts (items ++ i ∷ []) (set counts i.partition (get_or counts i.partition 0 + 1))
one-more items i counts there before p = at-test (eqb i.partition p) refl
  where
    n : ℕ
    n = length (for_partition p items)

    split : n + cond (eqb i.partition p) 1 0 ≡ length (for_partition p (items ++ i ∷ []))
    split = ap (λ m. n + m) (sym (one-for p i)) ∙ sym (ap length (filter-append (λ (x : Item). eqb x.partition p) items (i ∷ [])) ∙ length-append (for_partition p items) (for_partition p (i ∷ [])))

    more : ℕ
    more = get_or counts i.partition 0 + 1

    at-test : (b : Bool) → eqb i.partition p ≡ b → get_or (set counts i.partition more) p 0 ≡ length (for_partition p (items ++ i ∷ []))
    at-test true is =
        let same : i.partition ≡ p = eqb-true i.partition p is in
        ap (λ q. get_or (set counts i.partition more) q 0) (sym same) ∙ get_or-set_same counts i.partition more 0 there
        ∙ ap (λ m. m + 1) (ap (λ q. get_or counts q 0) same ∙ before p) ∙ ap (λ b. n + cond b 1 0) (sym is) ∙ split
    at-test false is =
        let none : n ≡ n + 0 = omega arith in
        get_or-set_other counts i.partition p more 0 (λ same. eqb-false i.partition p is (sym same)) ∙ before p ∙ none ∙ ap (λ b. n + cond b 1 0) (sym is) ∙ split

-- ---- sizes

-- a charge that is told as it is, or as one above the limit, is too large where it is
pub large-by : (n m : ℕ) (c : Config) → checked c ≡ Ok tt → (m ≤ 2147483647 → n ≡ m) → (n ≤ 2147483647 → n ≡ m) → nat_lt (min c.max_request_size c.buffer_memory) n ≡ (nat_lt c.max_request_size m || nat_lt c.buffer_memory m)
large-by n m c ok here there = by-limits c.max_request_size c.buffer_memory (has_bounds c ok).request
  where
    by-limits : (a b : ℕ) → a ≤ 8388608 → nat_lt (min a b) n ≡ (nat_lt a m || nat_lt b m)
    by-limits a b small = elim (cases_lt 2147483647 m) [
      | inl large ↦
          let larger : 2147483647 < n = elim (cases_lt 2147483647 n) [ inl l ↦ l | inr le ↦ absurd (omega (arith, there le, large)) ] in
          grind (arith, nat_tests)
      | inr fits ↦ let same = here fits in grind (arith, nat_tests)
    ]
