-- The definitions at work: what the loopback broker answers to batches of one, two and three records.
use Rattle.std.proofs.Common.{◌≡◌, ℕ, ◌≤◌, false, List, [], ◌∷◌, ◌++◌, length, ℤ, pos, negsuc, Some, None, refl, ap, ⊎_elim, arith}
use Rattle.std.specs.Prelude.{◌==◌}
use Rattle.std.proofs.lemmas.Bool.{eqb-false}
use Rattle.kp_batch.specs.declared.record.Record.{Record}
use Rattle.kp_log.specs.History.{Sent, History, empty_history, with_batch, with_others, of_id, own, own_offsets}
use Rattle.kp_log.specs.KeptBatches.{kept_in}
use Rattle.kp_log.specs.SequenceRule.{verdict}
use Rattle.kp_log.specs.BrokerStep.{Stands, IsOld, MayAppend, Offered, offered_to, refused_unseen, offered_late}
use Rattle.kp_log.proofs.PlaceLemmas.{In-nil}
use Rattle.kp_log.proofs.OffsetLemmas.{stands_at}

-- a record whose value is this one byte
abbrev value : ℕ → Record
value byte = record { timestamp = 0; key = None; value = Some (byte ∷ []); headers = [] }

abbrev a : Record
a = value 97

abbrev b : Record
b = value 98

abbrev c : Record
c = value 99

-- a batch of producer 1000
abbrev batch : ℕ → List Record → Sent
batch sequence bodies = record { id = 1000; sequence = sequence; bodies = bodies }

abbrev answers : Offered → ℤ → ℤ → History → Type 0
answers o code base h = o ≡ record { answer = record { code = code; base = base }; history = h }

-- ---- two batches in order

abbrev one : History
one = with_batch (batch 0 (a ∷ b ∷ [])) empty_history

abbrev two : History
two = with_batch (batch 2 (c ∷ [])) one

first_is_appended : answers (offered_to empty_history (batch 0 (a ∷ b ∷ []))) (pos 0) (pos 0) one
unfolding offered_to verdict kept_in
first_is_appended = refl

second_is_appended : answers (offered_to one (batch 2 (c ∷ []))) (pos 0) (pos 2) two
unfolding offered_to verdict kept_in own_offsets
second_is_appended = refl

-- ---- what is not appended

first_again_has_its_offset : answers (offered_to two (batch 0 (a ∷ b ∷ []))) (pos 0) (pos 0) two
unfolding offered_to verdict kept_in own_offsets
first_again_has_its_offset = refl

second_again_has_its_offset : answers (offered_to two (batch 2 (c ∷ []))) (pos 0) (pos 2) two
unfolding offered_to verdict kept_in own_offsets
second_again_has_its_offset = refl

gap_is_out_of_order : answers (offered_to two (batch 4 (a ∷ []))) (pos 45) (negsuc 0) two
unfolding offered_to verdict kept_in own_offsets
gap_is_out_of_order = refl

-- six batches
abbrev six : History
six = with_batch (batch 6 (a ∷ [])) (with_batch (batch 5 (a ∷ [])) (with_batch (batch 4 (a ∷ [])) (with_batch (batch 3 (a ∷ [])) two)))

older_than_five_is_a_duplicate : answers (offered_to six (batch 0 (a ∷ b ∷ []))) (pos 46) (negsuc 0) six
unfolding offered_to verdict kept_in own_offsets
older_than_five_is_a_duplicate = refl

fifth_last_has_its_offset : answers (offered_to six (batch 2 (c ∷ []))) (pos 0) (pos 2) six
unfolding offered_to verdict kept_in own_offsets
fifth_last_has_its_offset = refl

-- ---- what a loopback broker is told to answer

late_is_appended : offered_late one (batch 2 (c ∷ [])) (pos 7) ≡ record { answer = record { code = pos 7; base = negsuc 0 }; history = two }
unfolding offered_to verdict kept_in own_offsets
late_is_appended = refl

refused_is_not_appended : refused_unseen one (pos 7) ≡ record { answer = record { code = pos 7; base = negsuc 0 }; history = one }
refused_is_not_appended = refl

-- ---- what no honest broker does

gap_may_not_be_appended : MayAppend two (batch 4 (a ∷ [])) → ⊥
gap_may_not_be_appended may =
    ⊎_elim (λ (count : 3 ≡ 4). absurd (omega (arith, count))) (λ (none : 3 ≡ 0). absurd (omega (arith, none))) may

-- the batch stands at 2
told_another_offset : Stands two.records (batch 2 (c ∷ [])) (pos 1) → ⊥
unfolding own_offsets
told_another_offset stands =
    let offset : pos 2 ≡ pos 1 = stands_at two.records (batch 2 (c ∷ [])) (pos 1) (omega arith) stands in
    let same : ◌≡◌ {A = ℕ} 2 1 = cc in
    absurd (omega (arith, same))

-- behind the second of the six batches stand four
four_behind_are_too_few : IsOld six.batches (batch 2 (c ∷ [])) → ⊥
four_behind_are_too_few old = too_few old.earlier old.later old.split old.more
  where
    other : (m n : ℕ) (xs ys : List Record) → batch m xs ≡ batch n ys → (m == n) ≡ false → ⊥
    other m n xs ys e apart = let same : m ≡ n = ap (λ (z : Sent). z.sequence) e in eqb-false m n apart same

    too_few : (earlier later : List Sent) → six.batches ≡ earlier ++ batch 2 (c ∷ []) ∷ later → 5 ≤ length (of_id 1000 later) → ⊥
    too_few [] later e more = other 0 2 (a ∷ b ∷ []) (c ∷ []) (cc) refl
    too_few (x0 ∷ []) later e more =
        let four : batch 3 (a ∷ []) ∷ batch 4 (a ∷ []) ∷ batch 5 (a ∷ []) ∷ batch 6 (a ∷ []) ∷ [] ≡ later = cc in
        let few : 4 ≡ length (of_id 1000 later) = ap (λ z. length (of_id 1000 z)) four in
        absurd (omega (arith, few, more))
    too_few (x0 ∷ x1 ∷ []) later e more = other 3 2 (a ∷ []) (c ∷ []) (cc) refl
    too_few (x0 ∷ x1 ∷ x2 ∷ []) later e more = other 4 2 (a ∷ []) (c ∷ []) (cc) refl
    too_few (x0 ∷ x1 ∷ x2 ∷ x3 ∷ []) later e more = other 5 2 (a ∷ []) (c ∷ []) (cc) refl
    too_few (x0 ∷ x1 ∷ x2 ∷ x3 ∷ x4 ∷ []) later e more = other 6 2 (a ∷ []) (c ∷ []) (cc) refl
    too_few (x0 ∷ x1 ∷ x2 ∷ x3 ∷ x4 ∷ x5 ∷ xs) later e more =
        let none : [] ≡ xs ++ batch 2 (c ∷ []) ∷ later = cc in
        In-nil (batch 2 (c ∷ [])) (record { earlier = xs; later = later; split = none })

-- ---- another producer's records

abbrev shared : History
shared = with_batch (batch 1 (b ∷ c ∷ [])) (with_others 2 a (with_batch (batch 0 (a ∷ [])) empty_history))

others_are_passed_over : own_offsets (pos 1000 ∷ []) shared.records ≡ 0 ∷ 3 ∷ 4 ∷ []
unfolding own_offsets
others_are_passed_over = refl

own_are_in_order : own (1000 ∷ []) shared.records ≡ (record { producer_id = pos 1000; body = a }) ∷ (record { producer_id = pos 1000; body = b }) ∷ (record { producer_id = pos 1000; body = c }) ∷ []
unfolding own
own_are_in_order = refl

behind_others_it_has_its_offset : answers (offered_to shared (batch 1 (b ∷ c ∷ []))) (pos 0) (pos 3) shared
unfolding offered_to verdict kept_in own_offsets
behind_others_it_has_its_offset = refl

-- ---- a second producer id

abbrev fresh : Sent
fresh = record { id = 1001; sequence = 0; bodies = c ∷ [] }

fresh_id_begins_at_zero : answers (offered_to two fresh) (pos 0) (pos 3) (with_batch fresh two)
unfolding offered_to verdict kept_in own_offsets
fresh_id_begins_at_zero = refl

both_ids_are_own : own_offsets (pos 1000 ∷ pos 1001 ∷ []) (with_batch fresh two).records ≡ 0 ∷ 1 ∷ 2 ∷ 3 ∷ []
unfolding own_offsets
both_ids_are_own = refl

fresh_id_alone : own_offsets (pos 1001 ∷ []) (with_batch fresh two).records ≡ 3 ∷ []
unfolding own_offsets
fresh_id_alone = refl
