-- The rule, case by case, and what it says of a batch that comes again.
use Rattle.std.proofs.Common.{◌≡◌, ℕ, zero, suc, ◌+◌, ◌-◌, ◌≤◌, ◌^◌, Bool, true, false, cond, List, [], ◌∷◌, ◌++◌, length, drop, find, ℤ, pos, ◌≤ℤ◌, int_lt, int_eq, Option, Some, None, refl, sym, ap, subst, ◌∙◌, arith}
use Rattle.std.proofs.lemmas.Bool.{and_from, eq-eqb, le-leb}
use Rattle.std.proofs.lemmas.Int.{ints}
use Rattle.std.proofs.lemmas.List.{length-append, drop-append-le}
use Rattle.std.proofs.lemmas.List.Folds.{find-append}
use Rattle.kp_batch.specs.declared.batch.Batch.{Batch}
use Rattle.kp_log.specs.declared.answer.Answer.TheVariants as answer
use Rattle.kp_log.specs.declared.answer.Refusal.{Refusal}
use Rattle.kp_log.specs.declared.answer.Refusal.TheVariants.{InvalidRequest, InvalidProducerEpoch, DuplicateSequenceNumber, OutOfOrderSequenceNumber}
use Rattle.kp_log.specs.declared.kept.Span.{Span}
use Rattle.kp_log.specs.declared.kept.Kept.{Kept}
use Rattle.kp_log.specs.declared.offering.Verdict.{Verdict}
use Rattle.kp_log.specs.declared.offering.Verdict.TheVariants.{Refuse, Repeat, Append}
use Rattle.kp_log.specs.Log.{Log, kept_of, kept_after, last_kept, span_of, appended, empty}
use Rattle.kp_log.specs.declared.stored.Stored.{Stored}
use Rattle.kp_log.specs.History.{Sent, batch_of, arrived}
use Rattle.kp_log.proofs.RulingLemmas.{Ruling, Repeats, GoesOn, IsOlder, LeavesGap, ruling, verdict_of}
use Rattle.kp_log.proofs.LogLemmas.{int_eq_same, kept_of-appended}
use Rattle.kp_log.specs.SequenceRule.{IsFirst, Judgement, is_repeat, repeated, is_next, is_older, verdict, done, judged, unchanged, stored}

abbrev pub spans_of : Log → Batch → List Span
spans_of log b = (kept_of b.head.producer_id log).spans

-- ---- the rule, case by case

pub verdict_negative : (log : Log) (b : Batch) → int_lt b.head.producer_id (pos 0) ≡ true → verdict log b ≡ Refuse InvalidRequest
unfolding verdict
verdict_negative log b negative = rw negative

-- the producer id and the epoch are as they must be
pub record IsAddressed (b : Batch) : Type 0 where
  pub known : int_lt b.head.producer_id (pos 0) ≡ false
  pub first_epoch : int_eq b.head.epoch (pos 0) ≡ true

pub verdict_epoch : (log : Log) (b : Batch) → int_lt b.head.producer_id (pos 0) ≡ false
    → int_eq b.head.epoch (pos 0) ≡ false → verdict log b ≡ Refuse InvalidProducerEpoch
unfolding verdict
verdict_epoch log b known later = rw (known, later)

pub verdict_repeat : (log : Log) (b : Batch) (s : Span) → IsAddressed b
    → repeated b (spans_of log b) ≡ Some s → verdict log b ≡ Repeat s.base_offset
unfolding verdict
verdict_repeat log b s to found = rw (to.known, to.first_epoch, found)

pub verdict_next : (log : Log) (b : Batch) → IsAddressed b → repeated b (spans_of log b) ≡ None
    → is_next log.records b ≡ true → verdict log b ≡ Append
unfolding verdict
verdict_next log b to fresh next = rw (to.known, to.first_epoch, fresh, next)

pub verdict_older : (log : Log) (b : Batch) → IsAddressed b → repeated b (spans_of log b) ≡ None
    → is_next log.records b ≡ false → is_older b (spans_of log b) ≡ true → verdict log b ≡ Refuse DuplicateSequenceNumber
unfolding verdict
verdict_older log b to fresh gap older = rw (to.known, to.first_epoch, fresh, gap, older)

pub verdict_gap : (log : Log) (b : Batch) → IsAddressed b → repeated b (spans_of log b) ≡ None
    → is_next log.records b ≡ false → is_older b (spans_of log b) ≡ false → verdict log b ≡ Refuse OutOfOrderSequenceNumber
unfolding verdict
verdict_gap log b to fresh gap newer = rw (to.known, to.first_epoch, fresh, gap, newer)

-- ---- a batch of a history, as it arrives

not_negative : (n : ℤ) → pos 0 ≤ℤ n → int_lt n (pos 0) ≡ false
not_negative n h = grind (arith, ints)

addressed : (offset leader_epoch : ℤ) (b : Sent) → IsAddressed (arrived offset leader_epoch b)
addressed offset leader_epoch b = record { known = not_negative (pos b.id) (omega (arith, ints)); first_epoch = refl }

-- of a log with these records that keeps these batches the verdict is that of their ruling
pub verdict_as : (log : Log) (offset leader_epoch : ℤ) (b : Sent) (records : List Stored) (spans : List Span) (r : Ruling records spans (batch_of b))
    → log.records ≡ records → spans_of log (arrived offset leader_epoch b) ≡ spans
    → verdict log (arrived offset leader_epoch b) ≡ verdict_of r
verdict_as log offset leader_epoch b records spans (Repeats s is) same kept =
    verdict_repeat log (arrived offset leader_epoch b) s (addressed offset leader_epoch b) (ap (repeated (batch_of b)) kept ∙ is)
verdict_as log offset leader_epoch b records spans (GoesOn fresh is) same kept =
    verdict_next log (arrived offset leader_epoch b) (addressed offset leader_epoch b) (ap (repeated (batch_of b)) kept ∙ fresh) (ap (λ rs. is_next rs (batch_of b)) same ∙ is)
verdict_as log offset leader_epoch b records spans (IsOlder fresh is old) same kept =
    verdict_older log (arrived offset leader_epoch b) (addressed offset leader_epoch b) (ap (repeated (batch_of b)) kept ∙ fresh) (ap (λ rs. is_next rs (batch_of b)) same ∙ is) (ap (is_older (batch_of b)) kept ∙ old)
verdict_as log offset leader_epoch b records spans (LeavesGap fresh is old) same kept =
    verdict_gap log (arrived offset leader_epoch b) (addressed offset leader_epoch b) (ap (repeated (batch_of b)) kept ∙ fresh) (ap (λ rs. is_next rs (batch_of b)) same ∙ is) (ap (is_older (batch_of b)) kept ∙ old)

-- ---- what can come of a batch

pub record IsTaken (log : Log) (b : Batch) : Type 0 where
  pub addressed : IsAddressed b
  pub fresh : repeated b (spans_of log b) ≡ None
  pub next : is_next log.records b ≡ true

-- the log stays, or the batch is appended
pub data Outcome (log : Log) (b : Batch) (v : Verdict) : Type 0 where
  Refuses : (refusal : Refusal) → v ≡ Refuse refusal → Outcome log b v
  Finds : (offset : ℤ) → v ≡ Repeat offset → Outcome log b v
  Grows : v ≡ Append → IsTaken log b → Outcome log b v

outcome_by : (log : Log) (b : Batch) → IsAddressed b → Ruling log.records (spans_of log b) b → Outcome log b (verdict log b)
outcome_by log b to (Repeats s is) = Finds s.base_offset (verdict_repeat log b s to is)
outcome_by log b to (GoesOn fresh is) = Grows (verdict_next log b to fresh is) (record { addressed = to; fresh = fresh; next = is })
outcome_by log b to (IsOlder fresh is old) = Refuses _ (verdict_older log b to fresh is old)
outcome_by log b to (LeavesGap fresh is old) = Refuses _ (verdict_gap log b to fresh is old)

outcome_at : (log : Log) (b : Batch) (negative first : Bool)
    → int_lt b.head.producer_id (pos 0) ≡ negative → int_eq b.head.epoch (pos 0) ≡ first
    → Outcome log b (verdict log b)
outcome_at log b true first negative epoch = Refuses _ (verdict_negative log b negative)
outcome_at log b false false known later = Refuses _ (verdict_epoch log b known later)
outcome_at log b false true known first = outcome_by log b (record { known = known; first_epoch = first }) (ruling log.records (spans_of log b) b)

pub outcome : (log : Log) (b : Batch) → Outcome log b (verdict log b)
outcome log b = outcome_at log b _ _ refl refl

-- only the next batch of a producer is appended
pub append_is_taken : (log : Log) (b : Batch) → verdict log b ≡ Append → IsTaken log b
append_is_taken log b is = by (outcome log b)
  where
    by : Outcome log b (verdict log b) → IsTaken log b
    by (Refuses refusal was) = absurd (let apart : Refuse refusal ≡ Append = sym was ∙ is in cc)
    by (Finds offset was) = absurd (let apart : Repeat offset ≡ Append = sym was ∙ is in cc)
    by (Grows was t) = t

-- ---- a batch that comes again

-- the last of some batches end with the one that was put behind them
pub last_kept_push : (spans : List Span) (s : Span)
    → last_kept (spans ++ s ∷ []) ≡ drop (length spans + 1 - 5) spans ++ s ∷ []
last_kept_push spans s =
    let within : length spans + 1 - 5 ≤ length spans = omega arith in
    rw length-append (drop-append-le (length spans + 1 - 5) spans (s ∷ []) within)

none_dropped : {X : Type 0} (p : X → Bool) (n : ℕ) (xs : List X) → find p xs ≡ None → find p (drop n xs) ≡ None
none_dropped p zero xs none = none
none_dropped p (suc n) [] none = none
none_dropped p (suc n) (x ∷ xs) none = none_dropped p n xs (none_behind (p x) x (find p xs) none)
  where
    none_behind : {X : Type 0} (t : Bool) (x : X) (o : Option X) → cond t (Some x) o ≡ None → o ≡ None
    none_behind true x o h = absurd cc
    none_behind false x o h = h

found_last : {X : Type 0} (p : X → Bool) (xs : List X) (x : X) → find p xs ≡ None → p x ≡ true
    → find p (xs ++ x ∷ []) ≡ Some x
found_last p xs x none passes = rw (find-append, none, passes) refl

repeats_its_span : (log : Log) (b : Batch) → is_repeat b (span_of log b) ≡ true
repeats_its_span log b = and_from _ _ (int_eq_same b.head.base_sequence) (eq-eqb _ _ refl)

kept_of_appended : (log : Log) (b : Batch)
    → kept_of b.head.producer_id (appended log b) ≡ kept_after (kept_of b.head.producer_id log) (span_of log b)
kept_of_appended log b = kept_of-appended b.head.producer_id log b ∙ rw int_eq_same refl

found_appended : (log : Log) (b : Batch) → repeated b (spans_of log b) ≡ None
    → repeated b (spans_of (appended log b) b) ≡ Some (span_of log b)
found_appended log b fresh =
    let spans : List Span = spans_of log b in
    ap (λ (k : Kept). repeated b k.spans) (kept_of_appended log b)
    ∙ (ap (repeated b) (last_kept_push spans (span_of log b))
    ∙ found_last (is_repeat b) (drop (length spans + 1 - 5) spans) (span_of log b) (none_dropped (is_repeat b) _ spans fresh) (repeats_its_span log b))

pub judged-appended : (log : Log) (b : Batch) → IsAddressed b → repeated b (spans_of log b) ≡ None
    → judged (appended log b) b ≡ unchanged (appended log b) (answer.Stored (pos (length log.records)))
judged-appended log b to fresh = ap (done (appended log b) b) (verdict_repeat (appended log b) b (span_of log b) to (found_appended log b fresh))

-- Whatever the answer was, it is given again, and the log stays.
abbrev pub IsAnsweredAlike : Log → Batch → Type 0
IsAnsweredAlike log b = judged (judged log b).log b ≡ unchanged (judged log b).log (judged log b).answer

alike_at : (log : Log) (b : Batch) (s : Judgement) → judged log b ≡ s
    → judged s.log b ≡ unchanged s.log s.answer → IsAnsweredAlike log b
alike_at log b s is again = let P : Judgement → Type 0 = λ t. judged t.log b ≡ unchanged t.log t.answer in subst P (sym is) again

alike_by : (log : Log) (b : Batch) → Outcome log b (verdict log b) → IsAnsweredAlike log b
alike_by log b (Refuses refusal was) = let is = ap (done log b) was in alike_at log b (unchanged log (answer.Refused refusal)) is is
alike_by log b (Finds offset was) = let is = ap (done log b) was in alike_at log b (unchanged log (answer.Stored offset)) is is
alike_by log b (Grows was t) = alike_at log b (stored log b) (ap (done log b) was) (judged-appended log b t.addressed t.fresh)

pub answered_alike : (log : Log) (b : Batch) → IsAnsweredAlike log b
answered_alike log b = alike_by log b (outcome log b)

pub answered_with_offset : (log : Log) (b : Batch) (offset : ℤ)
    → judged log b ≡ record { answer = answer.Stored offset; log = appended log b }
    → judged (appended log b) b ≡ unchanged (appended log b) (answer.Stored offset)
answered_with_offset log b offset is =
    let P : Judgement → Type 0 = λ t. judged t.log b ≡ unchanged t.log t.answer in
    subst P is (answered_alike log b)

-- ---- a refusal

refusal_at : (log : Log) (b : Batch) (refusal : Refusal) → Outcome log b (verdict log b)
    → (judged log b).answer ≡ answer.Refused refusal → (judged log b).log ≡ log
refusal_at log b refusal (Refuses other was) refused = ap (λ v. (done log b v).log) was
refusal_at log b refusal (Finds offset was) refused = ap (λ v. (done log b v).log) was
refusal_at log b refusal (Grows was t) refused = absurd (let stands : (judged log b).answer ≡ answer.Stored (pos (length log.records)) = ap (λ v. (done log b v).answer) was in cc)

pub refusal_keeps : (log : Log) (b : Batch) (refusal : Refusal)
    → (judged log b).answer ≡ answer.Refused refusal → (judged log b).log ≡ log
refusal_keeps log b refusal refused = refusal_at log b refusal (outcome log b) refused

-- ---- a first batch

first_is_addressed : (b : Batch) → IsFirst b → IsAddressed b
first_is_addressed b first = record { known = not_negative _ first.known; first_epoch = rw first.first_epoch refl }

first_is_next : (b : Batch) → IsFirst b → is_next [] b ≡ true
first_is_next b first =
    rw first.from_zero
    (and_from _ _ (le-leb (0 + length b.records) (2 ^ 31) (omega (arith, first.in_sequence))) (le-leb (0 + length b.records) (2 ^ 63 - 1) (omega (arith, first.in_sequence))))

-- on an empty log it is appended
pub first_is_stored : (b : Batch) → IsFirst b
    → judged empty b ≡ record { answer = answer.Stored (pos 0); log = appended empty b }
first_is_stored b first = ap (done empty b) (verdict_next empty b (first_is_addressed b first) refl (first_is_next b first))

-- and answered alike when it comes again
pub first_is_answered_alike : (b : Batch) → IsFirst b
    → judged (appended empty b) b ≡ unchanged (appended empty b) (answer.Stored (pos 0))
first_is_answered_alike b first = answered_with_offset empty b (pos 0) (first_is_stored b first)
