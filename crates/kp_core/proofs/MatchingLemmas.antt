-- Which entries of a response stand for which partition.
use Rattle.std.proofs.Common.{◌≡◌, ◌≢◌, ◌⊎◌, inl, inr, ◌∙◌, ℕ, ◌+◌, ◌<◌, Bool, true, false, List, [], ◌∷◌, ◌++◌, length, get_or, set, take, pos, refl, sym, ap, subst, eqb}
use Rattle.std.specs.Prelude.{filter, nat_abs, if◌then◌else◌}
use Rattle.std.proofs.lemmas.Bool.Decides.{Decides-int_eq, eqb_tells}
use Rattle.std.proofs.lemmas.List.{append-nil, get_or-set_other, get_or-set_same, length-set, take_more}
use Rattle.std.proofs.lemmas.List.Elements.{filter-append}
use Rattle.kp_frames.specs.declared.produce.PartitionProduceResponse.{PartitionProduceResponse}
use Rattle.kp_rules.specs.Mismatch.{is_for}
use Rattle.kp_core.specs.declared.machine.matching.Entry.{Entry}
use Rattle.kp_core.specs.Matching.{AreEntries, IsEntry}

-- the entries up to the next one, once it is put
pub entries_more : {n k : ℕ} {found : List Entry} (after : List Entry) (xs : List PartitionProduceResponse) (d : PartitionProduceResponse) → k < length xs
    → ((ys : List PartitionProduceResponse) → AreEntries (length found) ys found → AreEntries (length found) (ys ++ get_or xs k d ∷ []) after)
    → AreEntries n (take k xs) found → AreEntries n (take (k + 1) xs) after
entries_more {n} {k} {found} after xs d there put f =
    subst (λ (ys : List PartitionProduceResponse). AreEntries n ys after) (sym (take_more xs k d there))
    (subst (λ (m : ℕ). AreEntries m (take k xs ++ get_or xs k d ∷ []) after) f.count
    (put (take k xs) (subst (λ (m : ℕ). AreEntries m (take k xs) found) (sym f.count) f)))

is_false : (b : Bool) → (b ≡ true → ⊥) → b ≡ false
is_false true never = absurd (never refl)
is_false false never = refl

-- the entries, once one more is put that is for a partition that is there
pub entry_put : (found : List Entry) (p : ℕ) (e : PartitionProduceResponse) (x r : Entry) → p < length found → e.partition ≡ pos p → x ≡ get_or found p x
    → ((ys : List PartitionProduceResponse) → IsEntry x ys → IsEntry r (ys ++ e ∷ []))
    → (xs : List PartitionProduceResponse) → AreEntries (length found) xs found → AreEntries (length found) (xs ++ e ∷ []) (set found p r)
entry_put found p e x r there its at put xs f = record {
  count = length-set found p r;
  each = λ q d below. by_place q d below (eqb_tells q p);
}
  where
    with_it : ℕ → Bool → List PartitionProduceResponse
    with_it q b = filter (is_for q) xs ++ (if b then e ∷ [] else [])

    among : (q : ℕ) (b : Bool) → is_for q e ≡ b → filter (is_for q) (xs ++ e ∷ []) ≡ with_it q b
    among q b is = filter-append (is_for q) xs (e ∷ []) ∙ ap (with_it q) is

    by_place : (q : ℕ) (d : Entry) → q < length found → ((eqb q p ≡ true) × (q ≡ p)) ⊎ ((eqb q p ≡ false) × (q ≢ p))
        → IsEntry (get_or (set found p r) q d) (filter (is_for q) (xs ++ e ∷ []))
    by_place q d below (inl same) =
        let old : get_or found q x ≡ x = ap (λ k. get_or found k x) same.1 ∙ sym at in
        let new : get_or (set found p r) q d ≡ r = ap (λ k. get_or (set found p r) k d) same.1 ∙ get_or-set_same found p r d there in
        let all = among q true ((Decides-int_eq e.partition (pos q)).1 (its ∙ ap pos (sym same.1))) in
        subst (λ (v : Entry). IsEntry v (filter (is_for q) (xs ++ e ∷ []))) (sym new)
        (subst (IsEntry r) (sym all)
        (put (filter (is_for q) xs) (subst (λ (v : Entry). IsEntry v (filter (is_for q) xs)) old (f.each q x below))))
    by_place q d below (inr other) =
        let new : get_or (set found p r) q d ≡ get_or found q d = get_or-set_other found p q r d other.1 in
        let another = is_false (is_for q e) (λ is. other.1 (sym (ap nat_abs (sym its ∙ (Decides-int_eq e.partition (pos q)).0 is)))) in
        let all = among q false another ∙ append-nil (filter (is_for q) xs) in
        subst (λ (v : Entry). IsEntry v (filter (is_for q) (xs ++ e ∷ []))) (sym new)
        (subst (IsEntry (get_or found q d)) (sym all) (f.each q d below))
