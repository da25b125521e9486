-- What the loopback broker does with a batch is an honest broker's step.
use Rattle.std.proofs.Common.{◌≡◌, ◌≢◌, ◌⊎◌, ℕ, ◌+◌, ◌-◌, ◌<◌, ◌≤◌, Bool, true, false, cond, List, [], ◌∷◌, ◌++◌, length, map, take, drop, find, ℤ, pos, negsuc, Some, None, unwrap_or, refl, sym, ap, ◌∙◌, subst, inl, inr, arith, length-append, append_assoc, Contains}
use Rattle.std.specs.Prelude.{◌==◌, int_le}
use Rattle.std.specs.Ordering.{int_eq}
use Rattle.std.proofs.lemmas.Bool.{eqb-false, and_parts, eq-eqb, leb-true}
use Rattle.std.proofs.lemmas.Bool.Decides.{Decides-int_eq}
use Rattle.std.proofs.lemmas.List.{length-take, length-drop, length-map, take-append-drop, drop-map}
use Rattle.std.proofs.lemmas.List.Elements.{All-contains}
use Rattle.kp_log.specs.declared.kept.Kept.{Kept}
use Rattle.kp_log.specs.declared.kept.Span.{Span}
use Rattle.kp_log.specs.declared.offering.Verdict.{Verdict}
use Rattle.kp_log.specs.declared.stored.Stored.{Stored}
use Rattle.kp_log.specs.Log.{count_of, kept_of, last_kept, nothing_kept}
use Rattle.kp_log.specs.SequenceRule.{is_repeat, is_next, is_older, done}
use Rattle.kp_log.specs.History.{Sent, History, batch_of, of_id, with_batch}
use Rattle.kp_log.specs.KeptBatches.{span_in, offset_in, kept_in, log_for}
use Rattle.kp_log.specs.BrokerStep.{Stands, IsOld, MayAppend, BrokerStep, NO_ERROR, DUPLICATE_SEQUENCE_NUMBER, Offered, answered, history_after, offered_to, offered_late}
use Rattle.kp_log.specs.HandedOver.{AreInSequence, IsStored, CameBy}
use Rattle.kp_log.proofs.LogLemmas.{IsNext, next_is, int_eq_same}
use Rattle.kp_log.proofs.RulingLemmas.{Ruling, Repeats, GoesOn, IsOlder, LeavesGap, ruling, verdict_of}
use Rattle.kp_log.proofs.RuleLemmas.{verdict_as}
use Rattle.kp_log.proofs.PlaceLemmas.{In, In-from_contains, contains_from_In, In-append_left, In-append_right, In-filter, In-head, Before, before_filter}
use Rattle.kp_log.proofs.SequenceLemmas.{CountFrom, counts, one_batch, in_front}
use Rattle.kp_log.proofs.OffsetLemmas.{stands_at, stands_last}

-- ---- what is kept

pub kept_of_log_for : (id : ℕ) (h : History) → kept_of (pos id) (log_for id h) ≡ kept_in id h
kept_of_log_for id h = ap (λ t. unwrap_or (cond t (Some (kept_in id h)) None) nothing_kept) (int_eq_same (pos id))

-- the last of some batches, and those before them
pub record LastOf (f : Sent → Span) (bs : List Sent) : Type 0 where
  pub front : List Sent
  pub last : List Sent
  pub split : bs ≡ front ++ last
  pub spans : last_kept (map f bs) ≡ map f last
  pub many : 0 < length front → 5 ≤ length last

pub last_of : (f : Sent → Span) (bs : List Sent) → LastOf f bs
last_of f bs =
    let k : ℕ = length (map f bs) - 5 in
    let all : length (map f bs) ≡ length bs = length-map bs f in
    let before : length (take k bs) ≤ k = omega (arith, length-take k bs) in
    let behind : length (drop k bs) ≡ length bs - k = length-drop k bs in
    record {
      front = take k bs;
      last = drop k bs;
      split = sym (take-append-drop k bs);
      spans = drop-map f k bs;
      many = λ some. omega (arith, all, before, behind, some);
    }

-- ---- what the loopback broker answers

abbrev pub with_history : ℤ → ℤ → History → Offered
with_history code base h = record { answer = record { code = code; base = base }; history = h }

-- its answer and its history, by what the rule finds
abbrev pub offered_of : {records : List Stored} {spans : List Span} (h : History) (b : Sent) → Ruling records spans (batch_of b) → Offered
offered_of h b (Repeats s is) = with_history (pos 0) s.base_offset h
offered_of h b (GoesOn fresh is) = with_history (pos 0) (pos (length h.records)) (with_batch b h)
offered_of h b (IsOlder fresh is old) = with_history (pos 46) (negsuc 0) h
offered_of h b (LeavesGap fresh is old) = with_history (pos 45) (negsuc 0) h

-- its answer and its history, by the verdict on its log
abbrev offered_by : History → Sent → Verdict → Offered
offered_by h b v = record { answer = answered (done (log_for b.id h) (batch_of b) v).answer; history = history_after h b v }

offered_by_rule : (h : History) (b : Sent) (r : Ruling h.records (kept_in b.id h).spans (batch_of b)) → offered_by h b (verdict_of r) ≡ offered_of h b r
offered_by_rule h b (Repeats s is) = refl
offered_by_rule h b (GoesOn fresh is) = refl
offered_by_rule h b (IsOlder fresh is old) = refl
offered_by_rule h b (LeavesGap fresh is old) = refl

pub offered_as : (h : History) (b : Sent) (r : Ruling h.records (kept_in b.id h).spans (batch_of b)) → offered_to h b ≡ offered_of h b r
unfolding offered_to
offered_as h b r =
    let kept : (kept_of (pos b.id) (log_for b.id h)).spans ≡ (kept_in b.id h).spans = ap (λ (k : Kept). k.spans) (kept_of_log_for b.id h) in
    ap (offered_by h b) (verdict_as (log_for b.id h) (pos 0) (negsuc 0) b h.records (kept_in b.id h).spans r refl kept) ∙ offered_by_rule h b r

-- ---- what becomes of the history

-- the history stays, or the batch is appended where it may be
abbrev Changes : History → Sent → History → Type 0
Changes h b after = (after ≡ h) ⊎ (MayAppend h b × (after ≡ with_batch b h))

pub count_at : (h : History) (b : Sent) → is_next h.records (batch_of b) ≡ true → count_of (pos b.id) h.records ≡ b.sequence
count_at h b is =
    let next : IsNext h.records (batch_of b) = next_is h.records (batch_of b) is in
    let follows : pos b.sequence ≡ pos (count_of (pos b.id) h.records) = next.follows in
    cc

changes_by : (h : History) (b : Sent) (r : Ruling h.records (kept_in b.id h).spans (batch_of b)) → Changes h b (offered_of h b r).history
changes_by h b (Repeats s is) = inl refl
changes_by h b (GoesOn fresh is) = inr (inl (count_at h b is), refl)
changes_by h b (IsOlder fresh is old) = inl refl
changes_by h b (LeavesGap fresh is old) = inl refl

changes : (h : History) (b : Sent) → Changes h b (offered_to h b).history
changes h b =
    let r : Ruling h.records (kept_in b.id h).spans (batch_of b) = ruling h.records (kept_in b.id h).spans (batch_of b) in
    subst (λ (o : Offered). Changes h b o.history) (sym (offered_as h b r)) (changes_by h b r)

-- told to answer late, with a code that says nothing of the batch
pub late_step : (h : History) (b : Sent) (code : ℤ) → code ≢ NO_ERROR → code ≢ DUPLICATE_SEQUENCE_NUMBER → BrokerStep h b (offered_late h b code).answer (offered_late h b code).history
late_step h b code other another = record {
  change = changes h b;
  stands = λ e. absurd (other e);
  is_old = λ e. absurd (another e);
}

-- ---- a batch of the list handed over

pub handed_in : (handed : List Sent) (b : Sent) → Contains handed b → In b (of_id b.id handed)
handed_in handed b h = In-filter (λ (c : Sent). c.id == b.id) b handed (eq-eqb b.id b.id refl) (In-from_contains handed b h)

pub some_of : (handed : List Sent) (b : Sent) → AreInSequence handed → Contains handed b → 0 < length b.bodies
some_of handed b s h = let at : In b handed = In-from_contains handed b h in (s.each at.earlier at.later b at.split).some_records

-- a batch of an id that was appended is stored
pub is_stored : (handed : List Sent) (h : History) (id : ℕ) (c : Sent) → CameBy handed h → In c (of_id id h.batches) → IsStored h.records c
is_stored handed h id c came at =
    let there : Before (λ (d : Sent). d.id == id) c h.batches at.later = before_filter (λ (d : Sent). d.id == id) c h.batches at.earlier at.later at.split in
    All-contains (IsStored h.records) h.batches c came.whole (contains_from_In h.batches c (record { earlier = there.earlier; later = there.later; split = there.split }))

-- ---- a repeat

-- what is found among the spans of some batches is the span of one of them
record FoundOf (p : Span → Bool) (f : Sent → Span) (bs : List Sent) (s : Span) : Type 0 where
  batch : Sent
  among : In batch bs
  is : f batch ≡ s
  passes : p (f batch) ≡ true

found_of : (p : Span → Bool) (f : Sent → Span) (bs : List Sent) (s : Span) → find p (map f bs) ≡ Some s → FoundOf p f bs s
found_of p f [] s e = absurd cc
found_of p f (c ∷ bs) s e = at_test (λ x. found_of p f bs s x) (p (f c)) refl e
  where
    at_test : (find p (map f bs) ≡ Some s → FoundOf p f bs s) → (t : Bool) → p (f c) ≡ t → cond t (Some (f c)) (find p (map f bs)) ≡ Some s → FoundOf p f (c ∷ bs) s
    at_test deeper true passes is = let same : f c ≡ s = cc in record { batch = c; among = In-head c bs; is = same; passes = passes }
    at_test deeper false passes is =
        let found : FoundOf p f bs s = deeper is in
        record { batch = found.batch; among = In-append_right found.batch (c ∷ []) bs found.among; is = found.is; passes = found.passes }

same_offset : (records : List Stored) (c : Sent) (s : Span) (base : ℤ) → span_in records c ≡ s → pos (offset_in records c) ≡ base → base ≡ s.base_offset
same_offset records c s base is at = sym at ∙ ap (λ (x : Span). x.base_offset) is

-- a repeat of a batch that was handed over is that batch: it is answered with the offset where it stands
repeat_stands : (handed : List Sent) (h : History) (b : Sent) (s : Span) → AreInSequence handed → CameBy handed h → Contains handed b
    → find (is_repeat (batch_of b)) (kept_in b.id h).spans ≡ Some s → Stands h.records b s.base_offset
unfolding kept_in
repeat_stands handed h b s in_sequence came at is =
    let f : Sent → Span = span_in h.records in
    let bs : List Sent = of_id b.id h.batches in
    let of_last : LastOf f bs = last_of f bs in
    let found : FoundOf (is_repeat (batch_of b)) f of_last.last s = found_of (is_repeat (batch_of b)) f of_last.last s (ap (find (is_repeat (batch_of b))) (sym of_last.spans) ∙ is) in
    let c : Sent = found.batch in
    let appended_c : In c bs = subst (In c) (sym of_last.split) (In-append_right c of_last.front of_last.last found.among) in
    let handed_c : In c (of_id b.id handed) = subst (In c) (sym (came.first b.id).1) (In-append_left c bs (came.first b.id).0 appended_c) in
    let one_number : pos b.sequence ≡ pos c.sequence = (Decides-int_eq (pos b.sequence) (pos c.sequence)).0 (and_parts (int_eq (pos b.sequence) (pos c.sequence)) (length b.bodies == length c.bodies) found.passes).0 in
    let same_number : b.sequence ≡ c.sequence = cc in
    let same : c ≡ b = sym (one_batch 0 (of_id b.id handed) b c (counts handed b.id in_sequence) (handed_in handed b at) handed_c same_number) in
    let there : IsStored h.records c = is_stored handed h b.id c came appended_c in
    let offset : there.base ≡ s.base_offset = same_offset h.records c s there.base found.is (stands_at h.records c there.base there.some_records there.stands) in
    subst (λ x. Stands h.records x s.base_offset) same (subst (Stands h.records c) offset there.stands)

-- ---- an older batch

-- a batch that ends before the oldest kept one begins is among those appended, with five of its id behind it
older_is_old : (handed : List Sent) (h : History) (b : Sent) → AreInSequence handed → CameBy handed h → Contains handed b
    → is_older (batch_of b) (kept_in b.id h).spans ≡ true → IsOld h.batches b
unfolding kept_in
older_is_old handed h b in_sequence came at is =
    let of_last : LastOf (span_in h.records) (of_id b.id h.batches) = last_of (span_in h.records) (of_id b.id h.batches) in
    by_last of_last.front of_last.last of_last.split of_last.many (ap (is_older (batch_of b)) (sym of_last.spans) ∙ is)
  where
    some : 0 < length b.bodies
    some = some_of handed b in_sequence at

    by_last : (front last : List Sent) → of_id b.id h.batches ≡ front ++ last → (0 < length front → 5 ≤ length last)
        → is_older (batch_of b) (map (span_in h.records) last) ≡ true → IsOld h.batches b
    by_last front [] split many old = absurd cc
    by_last front (o ∷ last) split many old =
        let ends : int_le (pos (b.sequence + length b.bodies)) (pos o.sequence) ≡ true = (and_parts (int_le (pos 0) (pos b.sequence)) (int_le (pos (b.sequence + length b.bodies)) (pos o.sequence)) old).1 in
        let less : b.sequence < o.sequence = omega (arith, leb-true (b.sequence + length b.bodies) o.sequence ends, some) in
        let rest : List Sent = (came.first b.id).0 in
        let all : of_id b.id handed ≡ front ++ o ∷ (last ++ rest) = (came.first b.id).1 ∙ ap (λ z. z ++ rest) split ∙ append_assoc front (o ∷ last) rest in
        let ahead : In b front = in_front 0 front o (last ++ rest) b (subst (CountFrom 0) all (counts handed b.id in_sequence)) (subst (In b) all (handed_in handed b at)) less in
        let place : of_id b.id h.batches ≡ ahead.earlier ++ b ∷ (ahead.later ++ o ∷ last) = split ∙ ap (λ z. z ++ o ∷ last) ahead.split ∙ append_assoc ahead.earlier (b ∷ ahead.later) (o ∷ last) in
        let there : Before (λ (d : Sent). d.id == b.id) b h.batches (ahead.later ++ o ∷ last) = before_filter (λ (d : Sent). d.id == b.id) b h.batches ahead.earlier (ahead.later ++ o ∷ last) place in
        let long : 0 < length front = omega (arith, ap length ahead.split, length-append ahead.earlier (b ∷ ahead.later)) in
        let five : 5 ≤ length (of_id b.id there.later) = omega (arith, ap length there.left, length-append ahead.later (o ∷ last), many long) in
        record { earlier = there.earlier; later = there.later; split = there.split; more = five }

-- ---- the law

apart : (m n : ℕ) → (m == n) ≡ false → pos m ≡ pos n → ⊥
apart m n differ e = let same : m ≡ n = cc in eqb-false m n differ same

step_by : (handed : List Sent) (h : History) (b : Sent) → AreInSequence handed → CameBy handed h → Contains handed b
    → (r : Ruling h.records (kept_in b.id h).spans (batch_of b)) → BrokerStep h b (offered_of h b r).answer (offered_of h b r).history
step_by handed h b in_sequence came at (Repeats s is) = record {
  change = inl refl;
  stands = λ _. repeat_stands handed h b s in_sequence came at is;
  is_old = λ e. absurd (apart 0 46 refl e);
}
step_by handed h b in_sequence came at (GoesOn fresh is) =
    let count : count_of (pos b.id) h.records ≡ b.sequence = count_at h b is in
    record {
      change = inr (inl count, refl);
      stands = λ _. stands_last h.records b count;
      is_old = λ e. absurd (apart 0 46 refl e);
    }
step_by handed h b in_sequence came at (IsOlder fresh is old) = record {
  change = inl refl;
  stands = λ e. absurd (apart 46 0 refl e);
  is_old = λ _. older_is_old handed h b in_sequence came at old;
}
step_by handed h b in_sequence came at (LeavesGap fresh is old) = record {
  change = inl refl;
  stands = λ e. absurd (apart 45 0 refl e);
  is_old = λ e. absurd (apart 45 46 refl e);
}

pub loopback_step : (handed : List Sent) (h : History) (b : Sent) → AreInSequence handed → CameBy handed h → Contains handed b
    → BrokerStep h b (offered_to h b).answer (offered_to h b).history
loopback_step handed h b in_sequence came at =
    let r : Ruling h.records (kept_in b.id h).spans (batch_of b) = ruling h.records (kept_in b.id h).spans (batch_of b) in
    subst (λ (o : Offered). BrokerStep h b o.answer o.history) (sym (offered_as h b r)) (step_by handed h b in_sequence came at r)
