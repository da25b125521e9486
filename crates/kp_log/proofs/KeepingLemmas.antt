-- A history that came by what was handed over stays one.
use Rattle.std.proofs.Common.{◌≡◌, ◌⊎◌, ℕ, ◌+◌, Bool, true, false, List, [], ◌∷◌, ◌++◌, length, replicate, pos, negsuc, refl, sym, ap, ◌∙◌, subst, ⊎_elim, arith, append_assoc, Contains}
use Rattle.std.specs.Prelude.{◌==◌}
use Rattle.std.proofs.lemmas.Bool.{eqb-true}
use Rattle.std.proofs.lemmas.List.{append-nil}
use Rattle.std.proofs.lemmas.List.Concat.{flat_map-append}
use Rattle.std.proofs.lemmas.List.Elements.{All-nil, All-weaker, All-push, filter-append}
use Rattle.kp_batch.specs.declared.record.Record.{Record}
use Rattle.kp_log.specs.Log.{count_of, stored_as, NO_ID}
use Rattle.kp_log.specs.History.{Sent, batch_of, History, stored_of, records_of, of_id, empty_history, with_batch, with_others}
use Rattle.kp_log.specs.KeptBatches.{kept_in}
use Rattle.kp_log.specs.BrokerStep.{Offered, offered_to}
use Rattle.kp_log.specs.HandedOver.{Follows, AreInSequence, IsStored, CameBy}
use Rattle.kp_log.proofs.LogLemmas.{int_apart, count_of-append, count_of_others}
use Rattle.kp_log.proofs.PlaceLemmas.{In, In-append_cases, In-nil, cut_cases}
use Rattle.kp_log.proofs.SequenceLemmas.{CountFrom, size_of, count_of-records_of, count_front, count_rest, below, first_batch, counts, of_id-own, of_id-other}
use Rattle.kp_log.proofs.OffsetLemmas.{stored_still, stands_last}
use Rattle.kp_log.proofs.RulingLemmas.{Ruling, Repeats, GoesOn, IsOlder, LeavesGap, ruling}
use Rattle.kp_log.proofs.LoopbackLemmas.{offered_of, offered_as, handed_in, some_of, count_at}

-- ---- one batch more is handed over

pub nothing_handed : AreInSequence []
nothing_handed = record { each = λ earlier later b e. absurd (In-nil b (record { earlier = earlier; later = later; split = e })) }

pub one_more_handed : (handed : List Sent) (b : Sent) → AreInSequence handed → Follows handed b → AreInSequence (handed ++ b ∷ [])
one_more_handed handed b s follows = record { each = λ earlier later c e. at_place earlier later c (cut_cases earlier c later handed (b ∷ []) (sym e)) }
  where
    behind : (earlier more later : List Sent) (c : Sent) → b ∷ [] ≡ more ++ c ∷ later → earlier ≡ handed ++ more → Follows earlier c
    behind earlier [] later c e is =
        let same : b ≡ c = cc in
        let all : handed ≡ earlier = sym (is ∙ append-nil handed) in
        subst (λ z. Follows z c) all (subst (Follows handed) same follows)
    behind earlier (d ∷ more) later c e is = let none : [] ≡ more ++ c ∷ later = cc in absurd (In-nil c (record { earlier = more; later = later; split = none }))

    at_place : (earlier later : List Sent) (c : Sent)
        → ((more : List Sent) × (handed ≡ earlier ++ c ∷ more)) ⊎ ((more : List Sent) × (b ∷ [] ≡ more ++ c ∷ later) × (earlier ≡ handed ++ more)) → Follows earlier c
    at_place earlier later c place =
        ⊎_elim
        (λ (h : (more : _) × (handed ≡ earlier ++ c ∷ more)). s.each earlier h.0 c h.1)
        (λ (h : (more : _) × (b ∷ [] ≡ more ++ c ∷ later) × (earlier ≡ handed ++ more)). behind earlier h.0 later c h.1 h.2)
        place

-- ---- what is known of the log

pub came_empty : (handed : List Sent) → CameBy handed empty_history
came_empty handed = record {
  first = λ id. (of_id id handed, refl);
  whole = All-nil (IsStored []);
  counted = λ id. refl;
}

pub came_of_more : (handed : List Sent) (b : Sent) (h : History) → CameBy handed h → CameBy (handed ++ b ∷ []) h
came_of_more handed b h came = record {
  first = λ id. (
    (came.first id).0 ++ of_id id (b ∷ []),
    filter-append (λ (c : Sent). c.id == id) handed (b ∷ [])
        ∙ ap (λ z. z ++ of_id id (b ∷ [])) (came.first id).1
        ∙ append_assoc (of_id id h.batches) (came.first id).0 (of_id id (b ∷ [])),
  );
  whole = came.whole;
  counted = came.counted;
}

pub others_count : (id n : ℕ) (body : Record) → count_of (pos id) (stored_as NO_ID (replicate n body)) ≡ 0
others_count id n body = count_of_others (pos id) NO_ID (replicate n body) (int_apart NO_ID (pos id) (λ same. absurd (let apart : negsuc 0 ≡ pos id = same in cc)))

pub came_others : (handed : List Sent) (h : History) (n : ℕ) (body : Record) → CameBy handed h → CameBy handed (with_others n body h)
came_others handed h n body came = record {
  first = came.first;
  whole = All-weaker (IsStored h.records) (IsStored (with_others n body h).records) (stored_still h.records (stored_as NO_ID (replicate n body))) h.batches came.whole;
  counted = λ id. count_of-append (pos id) h.records (stored_as NO_ID (replicate n body)) ∙ omega (arith, came.counted id, others_count id n body);
}

-- ---- one batch more is appended

-- where it begins at the count of its id, it is the first of its id that isn't there yet
pub came_appended : (handed : List Sent) (h : History) (b : Sent) → AreInSequence handed → CameBy handed h → Contains handed b
    → count_of (pos b.id) h.records ≡ b.sequence → CameBy handed (with_batch b h)
came_appended handed h b s came at is = record {
  first = λ id. at_id id (b.id == id) refl;
  whole = All-push (IsStored (with_batch b h).records) h.batches b
      (All-weaker (IsStored h.records) (IsStored (with_batch b h).records) (stored_still h.records (stored_of b)) h.batches came.whole)
      (record { some_records = some_of handed b s at; base = pos (length h.records); stands = stands_last h.records b is });
  counted = λ id.
      count_of-append (pos id) h.records (stored_of b)
      ∙ omega (arith, came.counted id, count_of-append (pos id) (records_of h.batches) (stored_of b ++ []), count_of-append (pos id) (stored_of b) [])
      ∙ ap (count_of (pos id)) (sym (flat_map-append stored_of h.batches (b ∷ [])));
}
  where
    appended : List Sent
    appended = of_id b.id h.batches

    rest : List Sent
    rest = (came.first b.id).0

    counted_all : CountFrom 0 (appended ++ rest)
    counted_all = subst (CountFrom 0) (came.first b.id).1 (counts handed b.id s)

    size : b.sequence ≡ 0 + size_of appended
    size = omega (arith, is, came.counted b.id, count_of-records_of b.id h.batches)

    behind : In b rest
    behind =
        ⊎_elim
        (λ (x : In b appended). absurd (omega (arith, size, below 0 appended b (count_front 0 appended rest counted_all) x)))
        (λ (x : In b rest). x)
        (In-append_cases b appended rest (subst (In b) (came.first b.id).1 (handed_in handed b at)))

    next : (later : List Sent) × (rest ≡ b ∷ later)
    next = first_batch (0 + size_of appended) rest b (count_rest 0 appended rest counted_all) behind size

    own_at : (later : List Sent) × (of_id b.id handed ≡ (appended ++ b ∷ []) ++ later)
    own_at = (next.0, (came.first b.id).1 ∙ ap (λ z. appended ++ z) next.1 ∙ sym (append_assoc appended (b ∷ []) next.0))

    at_id : (id : ℕ) (t : Bool) → (b.id == id) ≡ t → (later : List Sent) × (of_id id handed ≡ of_id id (h.batches ++ b ∷ []) ++ later)
    at_id id true same =
        let here : b.id ≡ id = eqb-true b.id id same in
        let end : of_id id h.batches ++ b ∷ [] ≡ of_id id (h.batches ++ b ∷ []) = sym (of_id-own id h.batches b same) in
        let moved : (later : List Sent) × (of_id id handed ≡ (of_id id h.batches ++ b ∷ []) ++ later) = subst (λ i. (later : List Sent) × (of_id i handed ≡ (of_id i h.batches ++ b ∷ []) ++ later)) here own_at in
        (moved.0, moved.1 ∙ ap (λ z. z ++ moved.0) end)
    at_id id false other =
        let end : of_id id h.batches ≡ of_id id (h.batches ++ b ∷ []) = sym (of_id-other id h.batches b other) in
        ((came.first id).0, (came.first id).1 ∙ ap (λ z. z ++ (came.first id).0) end)

came_by : (handed : List Sent) (h : History) (b : Sent) → AreInSequence handed → CameBy handed h → Contains handed b
    → (r : Ruling h.records (kept_in b.id h).spans (batch_of b)) → CameBy handed (offered_of h b r).history
came_by handed h b s came at (Repeats span is) = came
came_by handed h b s came at (GoesOn fresh is) = came_appended handed h b s came at (count_at h b is)
came_by handed h b s came at (IsOlder fresh is old) = came
came_by handed h b s came at (LeavesGap fresh is old) = came

pub came_offered : (handed : List Sent) (h : History) (b : Sent) → AreInSequence handed → CameBy handed h → Contains handed b
    → CameBy handed (offered_to h b).history
came_offered handed h b s came at =
    let r : Ruling h.records (kept_in b.id h).spans (batch_of b) = ruling h.records (kept_in b.id h).spans (batch_of b) in
    subst (λ (o : Offered). CameBy handed o.history) (sym (offered_as h b r)) (came_by handed h b s came at r)
