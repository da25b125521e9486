-- The kept counts stay those of the records, and what was inserted is found.
use Rattle.std.proofs.Common.{◌≡◌, ℕ, suc, ◌+◌, ◌≤◌, Bool, true, false, cond, List, [], ◌∷◌, ◌++◌, length, ℤ, pos, negsuc, ◌+ℤ◌, int_le, int_lt, Option, Some, unwrap_or, Ordering, Less, Equal, Greater, int_cmp, int_eq, is_eq, refl, sym, ap, subst, ◌∙◌, arith}
use Rattle.std.specs.Ordering.{match_ordering}
use Rattle.std.specs.BTreeMap.{insert_entry, is_at}
use Rattle.std.specs.Map.{lookup}
use Rattle.std.proofs.lemmas.Bool.{and_parts, leb-true, false_from_ne_true}
use Rattle.std.proofs.lemmas.Bool.Decides.{Decides-int_eq, not_from_Decides}
use Rattle.std.proofs.lemmas.List.{length-append, length-map}
use Rattle.kp_wire.proofs.ChoiceLemmas.{cond_under}
use Rattle.kp_batch.specs.declared.batch.Batch.{Batch}
use Rattle.kp_batch.specs.declared.record.Record.{Record}
use Rattle.kp_log.specs.declared.stored.Stored.{Stored}
use Rattle.kp_log.specs.declared.kept.Kept.{Kept}
use Rattle.kp_log.specs.Log.{Log, count_of, kept_of, kept_after, nothing_kept, span_of, stored_as, appended, others_appended, NO_ID, IsSound, SEQUENCE_LIMIT, LENGTH_LIMIT}
use Rattle.kp_log.specs.SequenceRule.{is_next}

-- ---- a look-up after an insertion

at_one_key : {X : Type 0} (a b : Bool) (v w : X) (o : Option X) → a ≡ b
    → cond a (Some v) o ≡ cond b (Some v) (cond a (Some w) o)
at_one_key true true v w o e = refl
at_one_key true false v w o e = absurd cc
at_one_key false true v w o e = absurd cc
at_one_key false false v w o e = refl

at_two_keys : {X : Type 0} (a b : Bool) (v w : X) (o p : Option X) → (a ≡ true → b ≡ true → ⊥)
    → p ≡ cond b (Some v) o → cond a (Some w) p ≡ cond b (Some v) (cond a (Some w) o)
at_two_keys true true v w o p apart e = absurd (apart refl refl)
at_two_keys true false v w o p apart e = refl
at_two_keys false b v w o p apart e = e

same_key : (k e : ℤ) → int_cmp k e ≡ Equal → k ≡ e
same_key k e h = (Decides-int_eq k e).0 (ap is_eq h)

other_keys : (q k e : ℤ) → int_cmp k e ≡ Greater → int_eq q e ≡ true → int_eq q k ≡ true → ⊥
other_keys q k e h at_e at_k =
    let same : k ≡ e = sym ((Decides-int_eq q k).0 at_k) ∙ (Decides-int_eq q e).0 at_e in
    let equal : is_eq (int_cmp k e) ≡ true = (Decides-int_eq k e).1 same in
    let apart : is_eq (int_cmp k e) ≡ false = ap is_eq h in
    absurd cc

lookup_at : {X : Type 0} (k : ℤ) (v : X) (q : ℤ) (e : ℤ × X) (es : List (ℤ × X)) (o : Ordering)
    → int_cmp k e.0 ≡ o
    → lookup (is_at (int_cmp q)) (insert_entry int_cmp es k v) ≡ cond (int_eq q k) (Some v) (lookup (is_at (int_cmp q)) es)
    → lookup (is_at (int_cmp q)) (match_ordering o ((k, v) ∷ e ∷ es) ((e.0, v) ∷ es) (e ∷ insert_entry int_cmp es k v)) ≡ cond (int_eq q k) (Some v) (lookup (is_at (int_cmp q)) (e ∷ es))
lookup_at k v q e es Less h later = refl
lookup_at k v q e es Equal h later = at_one_key (int_eq q e.0) (int_eq q k) v e.1 (lookup (is_at (int_cmp q)) es) (ap (int_eq q) (sym (same_key k e.0 h)))
lookup_at k v q e es Greater h later = at_two_keys (int_eq q e.0) (int_eq q k) v e.1 _ _ (other_keys q k e.0 h) later

pub lookup-insert_entry : {X : Type 0} (es : List (ℤ × X)) (k : ℤ) (v : X) (q : ℤ)
    → lookup (is_at (int_cmp q)) (insert_entry int_cmp es k v) ≡ cond (int_eq q k) (Some v) (lookup (is_at (int_cmp q)) es)
lookup-insert_entry [] k v q = refl
lookup-insert_entry (e ∷ es) k v q = lookup_at k v q e es (int_cmp k e.0) refl (lookup-insert_entry es k v q)

pub int_eq_same : (k : ℤ) → int_eq k k ≡ true
int_eq_same k = (Decides-int_eq k k).1 refl

pub int_apart : (x y : ℤ) → (x ≡ y → ⊥) → int_eq x y ≡ false
int_apart x y apart = false_from_ne_true (int_eq x y) (λ e. apart ((Decides-int_eq x y).0 e))

-- ---- counts

count_after : (b : Bool) (m n : ℕ) → cond b (suc (m + n)) (m + n) ≡ cond b (suc m) m + n
count_after true m n = omega arith
count_after false m n = refl

pub count_of-append : (id : ℤ) (xs ys : List Stored) → count_of id (xs ++ ys) ≡ count_of id xs + count_of id ys
count_of-append id [] ys = omega arith
count_of-append id (x ∷ xs) ys =
    ap (λ n. cond (int_eq x.producer_id id) (suc n) n) (count_of-append id xs ys) ∙ count_after (int_eq x.producer_id id) (count_of id xs) (count_of id ys)

pub count_of_own : (id : ℤ) (rs : List Record) → count_of id (stored_as id rs) ≡ length rs
count_of_own id [] = refl
count_of_own id (r ∷ rs) = rw int_eq_same (ap suc (count_of_own id rs))

pub count_of_others : (id owner : ℤ) (rs : List Record) → int_eq owner id ≡ false
    → count_of id (stored_as owner rs) ≡ 0
count_of_others id owner [] other = refl
count_of_others id owner (r ∷ rs) other = rw other (count_of_others id owner rs other)

pub length-stored_as : (id : ℤ) (rs : List Record) → length (stored_as id rs) ≡ length rs
length-stored_as id rs = length-map rs _

-- ---- the next batch

pub record IsNext (records : List Stored) (b : Batch) : Type 0 where
  pub follows : b.head.base_sequence ≡ pos (count_of b.head.producer_id records)
  pub in_sequence : count_of b.head.producer_id records + length b.records ≤ SEQUENCE_LIMIT
  pub in_length : length records + length b.records ≤ LENGTH_LIMIT

pub next_is : (records : List Stored) (b : Batch) → is_next records b ≡ true → IsNext records b
next_is records b h =
    let parts = and_parts _ _ h in
    let first = and_parts _ _ parts.0 in
    let follows : b.head.base_sequence ≡ pos (count_of b.head.producer_id records) = (Decides-int_eq _ _).0 first.0 in
    let ends : int_le (pos (count_of b.head.producer_id records) +ℤ pos (length b.records)) (pos SEQUENCE_LIMIT) ≡ true = rw follows at first.1 in
    record {
      follows = follows;
      in_sequence = leb-true _ _ ends;
      in_length = leb-true _ _ parts.1;
    }

-- ---- a log stays sound

pub kept_of-appended : (id : ℤ) (log : Log) (b : Batch)
    → kept_of id (appended log b) ≡ cond (int_eq id b.head.producer_id) (kept_after (kept_of b.head.producer_id log) (span_of log b)) (kept_of id log)
kept_of-appended id log b =
    let k : Kept = kept_after (kept_of b.head.producer_id log) (span_of log b) in
    ap (λ o. unwrap_or o nothing_kept) (lookup-insert_entry log.kept b.head.producer_id k id)
    ∙ cond_under (λ (o : Option Kept). unwrap_or o nothing_kept) (int_eq id b.head.producer_id) (Some k) (lookup (is_at (int_cmp id)) log.kept)

apart_swapped : (x y : ℤ) → int_eq x y ≡ false → int_eq y x ≡ false
apart_swapped x y h = int_apart y x (λ e. not_from_Decides (int_eq x y) (Decides-int_eq x y) h (sym e))

-- a log's kept count of an id that is not below 0
pub counted_known : (log : Log) (id : ℤ) → IsSound log → int_lt id (pos 0) ≡ false → (kept_of id log).count ≡ count_of id log.records
counted_known log (pos n) sound known = sound.counted n
counted_known log (negsuc n) sound known = absurd (let apart : true ≡ false = known in cc)

record IsCounted (log : Log) (b : Batch) (id : ℤ) : Type 0 where
  counted : (kept_of id (appended log b)).count ≡ count_of id (appended log b).records
  in_sequence : count_of id (appended log b).records ≤ SEQUENCE_LIMIT

counted_at : (log : Log) (b : Batch) → IsSound log → IsNext log.records b → (id : ℕ) (t : Bool)
    → int_eq (pos id) b.head.producer_id ≡ t → IsCounted log b (pos id)
counted_at log b sound next id true own =
    let same : pos id ≡ b.head.producer_id = (Decides-int_eq _ _).0 own in
    let all : count_of b.head.producer_id (appended log b).records ≡ count_of b.head.producer_id log.records + length b.records = count_of-append _ log.records _ ∙ ap (λ n. count_of b.head.producer_id log.records + n) (count_of_own b.head.producer_id b.records) in
    let counted : (kept_of b.head.producer_id log).count ≡ count_of b.head.producer_id log.records = subst (λ (i : ℤ). (kept_of i log).count ≡ count_of i log.records) same (sound.counted id) in
    let P : ℤ → Type 0 = λ i. IsCounted log b i in
    subst P (sym same) (record {
      counted = rw (kept_of-appended, int_eq_same, all) (ap (λ n. n + length b.records) counted);
      in_sequence = rw all next.in_sequence;
    })
counted_at log b sound next id false other =
    let apart : int_eq b.head.producer_id (pos id) ≡ false = apart_swapped (pos id) b.head.producer_id other in
    let all : count_of (pos id) (appended log b).records ≡ count_of (pos id) log.records = count_of-append _ log.records _ ∙ (ap (λ n. count_of (pos id) log.records + n) (count_of_others (pos id) b.head.producer_id b.records apart) ∙ omega arith) in
    record {
      counted = rw (kept_of-appended, other, all) (sound.counted id);
      in_sequence = rw all (sound.in_sequence id);
    }

pub IsSound-appended : (log : Log) (b : Batch) → IsSound log → is_next log.records b ≡ true
    → IsSound (appended log b)
IsSound-appended log b sound is =
    let next : IsNext log.records b = next_is log.records b is in
    record {
      counted = λ id. (counted_at log b sound next id (int_eq (pos id) b.head.producer_id) refl).counted;
      in_sequence = λ id. (counted_at log b sound next id (int_eq (pos id) b.head.producer_id) refl).in_sequence;
      in_length = rw (length-append, length-stored_as) next.in_length;
    }

-- others' records are nobody's that is counted
pub IsSound-others_appended : (log : Log) (bodies : List Record) → IsSound log → length log.records + length bodies ≤ LENGTH_LIMIT
    → IsSound (others_appended log bodies)
IsSound-others_appended log bodies sound room =
    let still : (id : ℕ) → count_of (pos id) (others_appended log bodies).records ≡ count_of (pos id) log.records =
    (λ (id : ℕ). count_of-append (pos id) log.records (stored_as NO_ID bodies) ∙ (ap (λ n. count_of (pos id) log.records + n) (count_of_others (pos id) NO_ID bodies (int_apart NO_ID (pos id) (λ same. absurd (let apart : negsuc 0 ≡ pos id = same in cc)))) ∙ omega arith)) in
    record {
      counted = λ id. sound.counted id ∙ sym (still id);
      in_sequence = λ id. omega (arith, still id, sound.in_sequence id);
      in_length = rw (length-append, length-stored_as) room;
    }

-- in whatever segments they lie
pub IsSound-others_held : (log : Log) (bodies : List Record) (records : List Stored) (segments : List ℕ) → IsSound log → length log.records + length bodies ≤ LENGTH_LIMIT
    → records ≡ log.records ++ stored_as NO_ID bodies → IsSound (record { records = records; kept = log.kept; segments = segments })
IsSound-others_held log bodies records segments sound room is =
    let all : IsSound (others_appended log bodies) = IsSound-others_appended log bodies sound room in
    let P : List Stored → Type 0 = λ rs. IsSound (record { records = rs; kept = log.kept; segments = segments }) in
    subst P (sym is) (record { counted = all.counted; in_sequence = all.in_sequence; in_length = all.in_length })
