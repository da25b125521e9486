-- What settling a partition's batch tells and leaves, case by case.
use Rattle.std.proofs.Common.{◌≡◌, ◌∙◌, ap, refl, ℕ, Bool, true, false, Some, None, ◌-◌, ◌^◌, ℤ, pos, ◌+ℤ◌, ◌≤ℤ◌, length, arith, subst}
use Rattle.std.specs.Prelude.{if◌then◌else◌, int_le, not, ◌||◌, ◌&&◌, Option}
use Rattle.std.specs.List.{list_any}
use Rattle.std.specs.Ordering.{int_eq}
use Rattle.std.proofs.lemmas.Int.{ints}
use Rattle.kp_frames.specs.declared.produce.PartitionProduceResponse.{PartitionProduceResponse}
use Rattle.kp_rules.specs.declared.meaning.Meaning.{Meaning}
use Rattle.kp_rules.specs.declared.meaning.Meaning.TheVariants.{Stored, Duplicate, Retry, Reject}
use Rattle.kp_rules.specs.Attempts.{awaiting}
use Rattle.kp_rules.specs.Mismatch.{has_offsets}
use Rattle.kp_rules.specs.Records.{Open, Partition}
use Rattle.kp_rules.specs.Settling.{left_alone, meaning_of, retried_codes, settle_batch, settle_by}

pub settled-none : (now k : ℕ) (t : Partition) (a : PartitionProduceResponse) → awaiting k t ≡ None → settle_batch now k t a ≡ left_alone t
unfolding settle_batch
settled-none now k t a e = at_option (awaiting k t) e
  where
    at_option : (w : Option Open) → w ≡ None → (elim w [ None ↦ left_alone t | Some o ↦ settle_by now k t o a (meaning_of a.error_code) ]) ≡ left_alone t
    at_option None f = refl
    at_option (Some o) f = cc

pub settled-some : (now k : ℕ) (t : Partition) (a : PartitionProduceResponse) (o : Open) (m : Meaning) → awaiting k t ≡ Some o → meaning_of a.error_code ≡ m
    → settle_batch now k t a ≡ settle_by now k t o a m
unfolding settle_batch
settled-some now k t a o m e means = at_option (awaiting k t) e
  where
    at_option : (w : Option Open) → w ≡ Some o → (elim w [ None ↦ left_alone t | Some o' ↦ settle_by now k t o' a (meaning_of a.error_code) ]) ≡ settle_by now k t o a m
    at_option None f = cc
    at_option (Some x) f =
        let same : x ≡ o = cc in
        ap (λ (y : Open). settle_by now k t y a (meaning_of a.error_code)) same ∙ ap (settle_by now k t o a) means

stored_code : (code : ℤ) → meaning_of code ≡ Stored → int_eq code (pos 0) ≡ true
unfolding meaning_of
stored_code code e = at_tests (int_eq code (pos 0)) (int_eq code (pos 46)) (list_any (int_eq code) retried_codes) e
  where
    at_tests : (a b c : Bool) → (if a then Stored else if b then Duplicate else if c then Retry else Reject) ≡ Stored → a ≡ true
    at_tests true b c e = refl
    at_tests false true c e = cc
    at_tests false false true e = cc
    at_tests false false false e = cc

end_within : (z : Bool) (end : ℤ) → (z && int_le end (pos (2 ^ 63 - 1))) ≡ true → end ≤ℤ pos (2 ^ 63 - 1)
end_within true end e = grind (arith, ints)
end_within false end e = cc

within : (b : Bool) (base count : ℤ) → b ≡ true → (not b || (int_le (pos 0) base && int_le (base +ℤ count) (pos (2 ^ 63 - 1)))) ≡ true
    → (base +ℤ count) ≤ℤ pos (2 ^ 63 - 1)
within true base count is fits = end_within (int_le (pos 0) base) (base +ℤ count) fits
within false base count is fits = cc

-- where the entry stores the batch, the offset behind its last one is an int64
pub offsets_fit : (attempt : Option Open) (a : PartitionProduceResponse) (o : Open) → has_offsets attempt a ≡ true → attempt ≡ Some o → meaning_of a.error_code ≡ Stored
    → (a.base_offset +ℤ pos (length o.batch.items)) ≤ℤ pos (2 ^ 63 - 1)
offsets_fit attempt a o h e f =
    let stored = stored_code a.error_code f in
    let fits = subst (λ (x : Option Open). has_offsets x a ≡ true) e h in
    within (int_eq a.error_code (pos 0)) a.base_offset (pos (length o.batch.items)) stored fits
