-- A log of a history does with a batch what the loopback broker does with it in the history.
use Rattle.std.proofs.Common.{◌≡◌, ℕ, ◌+◌, ◌-◌, ◌<◌, Bool, true, false, cond, List, [], ◌∷◌, ◌++◌, length, map, drop, replicate, ℤ, pos, refl, sym, ap, ◌∙◌, subst, arith, All}
use Rattle.std.specs.Prelude.{◌==◌}
use Rattle.std.specs.Ordering.{int_eq}
use Rattle.std.proofs.lemmas.Bool.{eqb-false, eqb-true, eq-eqb, ne_eqb}
use Rattle.std.proofs.lemmas.List.{drop-drop, length-drop, map_push}
use Rattle.std.proofs.lemmas.List.Elements.{All-head, All-tail, All-filter}
use Rattle.kp_batch.specs.declared.record.Record.{Record}
use Rattle.kp_log.specs.declared.kept.Kept.{Kept}
use Rattle.kp_log.specs.declared.kept.Span.{Span}
use Rattle.kp_log.specs.declared.stored.Stored.{Stored}
use Rattle.kp_log.specs.Log.{Log, empty, count_of, kept_of, kept_after, last_kept, span_of, stored_as, appended, NO_ID, others_appended}
use Rattle.kp_log.specs.SequenceRule.{Judgement, done, judged}
use Rattle.kp_log.specs.History.{Sent, batch_of, History, arrived, stored_of, of_id, empty_history, with_batch, with_others}
use Rattle.kp_log.specs.KeptBatches.{span_in, kept_in, IsHistoryOf}
use Rattle.kp_log.specs.BrokerStep.{Answered, Offered, answered, offered_to}
use Rattle.kp_log.specs.HandedOver.{IsStored}
use Rattle.kp_log.proofs.LogLemmas.{int_eq_same, kept_of-appended, count_of-append, count_of_own, count_of_others}
use Rattle.kp_log.proofs.RuleLemmas.{last_kept_push}
use Rattle.kp_log.proofs.SequenceLemmas.{ids_apart, of_id-own, of_id-other}
use Rattle.kp_log.proofs.OffsetLemmas.{span_still, span_last}
use Rattle.kp_log.proofs.RulingLemmas.{Ruling, Repeats, GoesOn, IsOlder, LeavesGap, ruling, step_of}
use Rattle.kp_log.proofs.RuleLemmas.{verdict_as}
use Rattle.kp_log.proofs.LoopbackLemmas.{offered_of, offered_as, count_at}
use Rattle.kp_log.proofs.KeepingLemmas.{others_count}

-- ---- nothing

pub empty_is_of_empty : IsHistoryOf empty_history empty
unfolding kept_in
empty_is_of_empty = record { records = refl; kept = λ id. refl }

-- ---- what is kept of batches that stay where they are

spans_agree : (records more : List Stored) (bs : List Sent) → All (IsStored records) bs → map (span_in (records ++ more)) bs ≡ map (span_in records) bs
spans_agree records more [] whole = refl
spans_agree records more (b ∷ bs) whole =
    let one : span_in (records ++ more) b ≡ span_in records b = span_still records more b (All-head (IsStored records) b bs whole) in
    let rest : map (span_in (records ++ more)) bs ≡ map (span_in records) bs = spans_agree records more bs (All-tail (IsStored records) b bs whole) in
    cc

abbrev kept_as : ℕ → List Span → Kept
kept_as count spans = record { count = count; spans = last_kept spans }

-- where nothing of an id came, what is kept of it stays
kept_still : (id : ℕ) (h : History) (more : List Stored) (after : List Sent) → All (IsStored h.records) h.batches
    → count_of (pos id) more ≡ 0 → of_id id after ≡ of_id id h.batches
    → kept_in id (record { records = h.records ++ more; batches = after }) ≡ kept_in id h
unfolding kept_in
kept_still id h more after whole none same =
    let count : count_of (pos id) (h.records ++ more) ≡ count_of (pos id) h.records = count_of-append (pos id) h.records more ∙ omega (arith, none) in
    let spans : map (span_in (h.records ++ more)) (of_id id after) ≡ map (span_in h.records) (of_id id h.batches) = ap (map (span_in (h.records ++ more))) same ∙ spans_agree h.records more (of_id id h.batches) (All-filter (λ (b : Sent). b.id == id) (IsStored h.records) h.batches whole) in
    ap (λ n. kept_as n (map (span_in (h.records ++ more)) (of_id id after))) count ∙ ap (kept_as (count_of (pos id) h.records)) spans

-- the last five of the last five and one more
last_of_last : (spans : List Span) (s : Span) → last_kept (last_kept spans ++ s ∷ []) ≡ last_kept (spans ++ s ∷ [])
last_of_last spans s =
    let k : ℕ = length spans - 5 in
    let long : length (drop k spans) ≡ length spans - k = length-drop k spans in
    let far : k + (length (drop k spans) + 1 - 5) ≡ length spans + 1 - 5 = omega (arith, long) in
    last_kept_push (drop k spans) s
    ∙ ap (λ z. z ++ s ∷ []) (drop-drop (length (drop k spans) + 1 - 5) k spans ∙ ap (λ n. drop n spans) far)
    ∙ sym (last_kept_push spans s)

-- ---- an append

-- the batch at this offset
abbrev span_at : Sent → ℕ → Span
span_at b offset = record { base_sequence = pos b.sequence; count = length b.bodies; base_offset = pos offset }

-- what is kept of the batch's own id
kept_more : (h : History) (b : Sent) → All (IsStored h.records) h.batches → 0 < length b.bodies → count_of (pos b.id) h.records ≡ b.sequence
    → kept_after (kept_in b.id h) (span_at b (length h.records)) ≡ kept_in b.id (with_batch b h)
unfolding kept_in
kept_more h b whole some is =
    let old : List Span = map (span_in h.records) (of_id b.id h.batches) in
    let new : List Stored = h.records ++ stored_of b in
    let span : Span = span_at b (length h.records) in
    let pushed : of_id b.id (h.batches ++ b ∷ []) ≡ of_id b.id h.batches ++ b ∷ [] = of_id-own b.id h.batches b (eq-eqb b.id b.id refl) in
    let still : map (span_in new) (of_id b.id h.batches) ≡ old = spans_agree h.records (stored_of b) (of_id b.id h.batches) (All-filter (λ (c : Sent). c.id == b.id) (IsStored h.records) h.batches whole) in
    let spans : map (span_in new) (of_id b.id (h.batches ++ b ∷ [])) ≡ old ++ span ∷ [] = ap (map (span_in new)) pushed ∙ map_push (span_in new) (of_id b.id h.batches) b ∙ ap (λ z. z ++ span_in new b ∷ []) still ∙ ap (λ s. old ++ s ∷ []) (span_last h.records b some is) in
    let count : count_of (pos b.id) new ≡ count_of (pos b.id) h.records + length b.bodies = count_of-append (pos b.id) h.records (stored_of b) ∙ ap (λ n. count_of (pos b.id) h.records + n) (count_of_own (pos b.id) b.bodies) in
    ap (λ z. let kept : Kept = record { count = count_of (pos b.id) h.records + length b.bodies; spans = z } in kept) (last_of_last old span ∙ ap last_kept (sym spans))
    ∙ ap (λ n. kept_as n (map (span_in new) (of_id b.id (h.batches ++ b ∷ [])))) (sym count)

pub appended_is_of_appended : (h : History) (log : Log) (offset leader_epoch : ℤ) (b : Sent) → IsHistoryOf h log → All (IsStored h.records) h.batches
    → 0 < length b.bodies → count_of (pos b.id) h.records ≡ b.sequence → IsHistoryOf (with_batch b h) (appended log (arrived offset leader_epoch b))
appended_is_of_appended h log offset leader_epoch b of whole some is = record {
  records = ap (λ z. z ++ stored_of b) of.records;
  kept = λ id. kept_of-appended (pos id) log (arrived offset leader_epoch b) ∙ at_id id (b.id == id) refl;
}
  where
    own : kept_after (kept_of (pos b.id) log) (span_of log (arrived offset leader_epoch b)) ≡ kept_in b.id (with_batch b h)
    own = ap (λ k. kept_after k (span_at b (length log.records))) (of.kept b.id) ∙ ap (λ (rs : List Stored). kept_after (kept_in b.id h) (span_at b (length rs))) of.records ∙ kept_more h b whole some is

    at_id : (id : ℕ) (t : Bool) → (b.id == id) ≡ t
        → cond (int_eq (pos id) (pos b.id)) (kept_after (kept_of (pos b.id) log) (span_of log (arrived offset leader_epoch b))) (kept_of (pos id) log) ≡ kept_in id (with_batch b h)
    at_id id true same =
        let here : b.id ≡ id = eqb-true b.id id same in
        subst (λ i. cond (int_eq (pos i) (pos b.id)) (kept_after (kept_of (pos b.id) log) (span_of log (arrived offset leader_epoch b))) (kept_of (pos i) log) ≡ kept_in i (with_batch b h)) here
        (ap (λ t. cond t (kept_after (kept_of (pos b.id) log) (span_of log (arrived offset leader_epoch b))) (kept_of (pos b.id) log)) (int_eq_same (pos b.id)) ∙ own)
    at_id id false other =
        let swapped : (id == b.id) ≡ false = ne_eqb id b.id (λ e. eqb-false b.id id other (sym e)) in
        let behind : of_id id (h.batches ++ b ∷ []) ≡ of_id id h.batches = of_id-other id h.batches b other in
        ap (λ t. cond t (kept_after (kept_of (pos b.id) log) (span_of log (arrived offset leader_epoch b))) (kept_of (pos id) log)) (ids_apart id b.id swapped)
        ∙ of.kept id
        ∙ sym (kept_still id h (stored_of b) (h.batches ++ b ∷ []) whole (count_of_others (pos id) (pos b.id) b.bodies (ids_apart b.id id other)) behind)

-- ---- others' records

pub others_are_of_others : (h : History) (log : Log) (n : ℕ) (body : Record) → IsHistoryOf h log → All (IsStored h.records) h.batches
    → IsHistoryOf (with_others n body h) (others_appended log (replicate n body))
others_are_of_others h log n body of whole = record {
  records = ap (λ z. z ++ stored_as NO_ID (replicate n body)) of.records;
  kept = λ id. of.kept id ∙ sym (kept_still id h (stored_as NO_ID (replicate n body)) h.batches whole (others_count id n body) refl);
}

-- ---- an offer

-- the log answers as the loopback broker does, and its history is then the one after
pub record AnswersAlike (o : Offered) (step : Judgement) : Type 0 where
  pub answer : answered step.answer ≡ o.answer
  pub history : IsHistoryOf o.history step.log

alike_by : (h : History) (log : Log) (offset leader_epoch : ℤ) (b : Sent) → IsHistoryOf h log → All (IsStored h.records) h.batches → 0 < length b.bodies
    → (r : Ruling h.records (kept_in b.id h).spans (batch_of b)) → AnswersAlike (offered_of h b r) (step_of log (arrived offset leader_epoch b) r)
alike_by h log offset leader_epoch b of whole some (Repeats s is) = record { answer = refl; history = of }
alike_by h log offset leader_epoch b of whole some (GoesOn fresh is) = record {
  answer = ap (λ (rs : List Stored). let a : Answered = record { code = pos 0; base = pos (length rs) } in a) of.records;
  history = appended_is_of_appended h log offset leader_epoch b of whole some (count_at h b is);
}
alike_by h log offset leader_epoch b of whole some (IsOlder fresh is old) = record { answer = refl; history = of }
alike_by h log offset leader_epoch b of whole some (LeavesGap fresh is old) = record { answer = refl; history = of }

pub alike : (h : History) (log : Log) (offset leader_epoch : ℤ) (b : Sent) → IsHistoryOf h log → All (IsStored h.records) h.batches → 0 < length b.bodies
    → AnswersAlike (offered_to h b) (judged log (arrived offset leader_epoch b))
alike h log offset leader_epoch b of whole some =
    let r : Ruling h.records (kept_in b.id h).spans (batch_of b) = ruling h.records (kept_in b.id h).spans (batch_of b) in
    let judged_so : judged log (arrived offset leader_epoch b) ≡ step_of log (arrived offset leader_epoch b) r = ap (done log (arrived offset leader_epoch b)) (verdict_as log offset leader_epoch b h.records (kept_in b.id h).spans r of.records (ap (λ (k : Kept). k.spans) (of.kept b.id))) in
    subst (λ o. AnswersAlike o (judged log (arrived offset leader_epoch b))) (sym (offered_as h b r))
    (subst (λ s. AnswersAlike (offered_of h b r) s) (sym judged_so) (alike_by h log offset leader_epoch b of whole some r))
