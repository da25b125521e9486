-- Where a batch stands in a log, and that it stays there.
use Rattle.std.proofs.Common.{◌≡◌, ℕ, suc, ◌+◌, ◌<◌, false, cond, ◌||◌, List, [], ◌∷◌, ◌++◌, length, map, get_or, ℤ, pos, refl, sym, ap, ◌∙◌, arith, append_assoc}
use Rattle.std.specs.List.{filter, enumerate_from}
use Rattle.std.specs.Ordering.{int_eq}
use Rattle.std.proofs.Math.Bool.{or-false}
use Rattle.std.proofs.lemmas.List.{append-nil, get_or_at}
use Rattle.kp_wire.proofs.ChoiceLemmas.{cond_under}
use Rattle.kp_batch.specs.declared.record.Record.{Record}
use Rattle.kp_log.specs.declared.stored.Stored.{Stored}
use Rattle.kp_log.specs.declared.kept.Span.{Span}
use Rattle.kp_log.specs.Log.{count_of, stored_as}
use Rattle.kp_log.specs.History.{Sent, stored_of, is_under, own_offsets}
use Rattle.kp_log.specs.KeptBatches.{offset_in, span_in}
use Rattle.kp_log.specs.BrokerStep.{Stands}
use Rattle.kp_log.specs.HandedOver.{IsStored}
use Rattle.kp_log.proofs.LogLemmas.{int_eq_same}

-- ---- offsets

-- the offsets of the records under an id, where the first record has this offset
abbrev offsets_from : ℕ → ℤ → List Stored → List ℕ
offsets_from n id records = map (λ (at : ℕ × Stored). at.0) (filter (λ (at : ℕ × Stored). is_under (id ∷ []) at.1) (enumerate_from n records))

from_zero : (id : ℤ) (records : List Stored) → own_offsets (id ∷ []) records ≡ offsets_from 0 id records
unfolding own_offsets
from_zero id records = refl

offsets_cons : (n : ℕ) (id : ℤ) (s : Stored) (records : List Stored)
    → offsets_from n id (s ∷ records) ≡ cond (int_eq s.producer_id id) (n ∷ offsets_from (n + 1) id records) (offsets_from (n + 1) id records)
offsets_cons n id s records =
    let rest = filter (λ (at : ℕ × Stored). is_under (id ∷ []) at.1) (enumerate_from (n + 1) records) in
    cond_under (map (λ (at : ℕ × Stored). at.0)) (int_eq s.producer_id id || false) ((n, s) ∷ rest) rest
    ∙ ap (λ t. cond t (n ∷ offsets_from (n + 1) id records) (offsets_from (n + 1) id records)) (or-false (int_eq s.producer_id id))

-- as many as there are records under it
offsets-append : (n : ℕ) (id : ℤ) (xs ys : List Stored)
    → offsets_from n id (xs ++ ys) ≡ offsets_from n id xs ++ offsets_from (n + length xs) id ys
offsets-append n id [] ys = let same : n ≡ n + 0 = omega arith in ap (λ k. offsets_from k id ys) same
offsets-append n id (x ∷ xs) ys =
    let same : n + 1 + length xs ≡ n + suc (length xs) = omega arith in
    let deeper : offsets_from (n + 1) id (xs ++ ys) ≡ offsets_from (n + 1) id xs ++ offsets_from (n + suc (length xs)) id ys = offsets-append (n + 1) id xs ys ∙ ap (λ k. offsets_from (n + 1) id xs ++ offsets_from k id ys) same in
    offsets_cons n id x (xs ++ ys)
    ∙ ap (λ z. cond (int_eq x.producer_id id) (n ∷ z) z) deeper
    ∙ sym (cond_under (λ (z : List ℕ). z ++ offsets_from (n + suc (length xs)) id ys) (int_eq x.producer_id id) (n ∷ offsets_from (n + 1) id xs) (offsets_from (n + 1) id xs))
    ∙ ap (λ z. z ++ offsets_from (n + suc (length xs)) id ys) (sym (offsets_cons n id x xs))

length-offsets : (n : ℕ) (id : ℤ) (xs : List Stored) → length (offsets_from n id xs) ≡ count_of id xs
length-offsets n id [] = refl
length-offsets n id (x ∷ xs) =
    ap length (offsets_cons n id x xs) ∙ cond_under length (int_eq x.producer_id id) (n ∷ offsets_from (n + 1) id xs) (offsets_from (n + 1) id xs)
    ∙ ap (λ k. cond (int_eq x.producer_id id) (suc k) k) (length-offsets (n + 1) id xs)

-- the first of an id's records stands where so many of them stand before it
begins : (id : ℤ) (before : List Stored) (r : Record) (rest : List Stored) (k : ℕ) → count_of id before ≡ k
    → get_or (own_offsets (id ∷ []) (before ++ (record { producer_id = id; body = r }) ∷ rest)) k 0 ≡ length before
begins id before r rest k is =
    let first : Stored = record { producer_id = id; body = r } in
    let behind = offsets_from (0 + length before + 1) id rest in
    let here : offsets_from (0 + length before) id (first ∷ rest) ≡ (0 + length before) ∷ behind = offsets_cons (0 + length before) id first rest ∙ ap (λ t. cond t ((0 + length before) ∷ behind) behind) (int_eq_same id) in
    let all : own_offsets (id ∷ []) (before ++ first ∷ rest) ≡ offsets_from 0 id before ++ (0 + length before) ∷ behind = from_zero id (before ++ first ∷ rest) ∙ offsets-append 0 id before (first ∷ rest) ∙ ap (λ z. offsets_from 0 id before ++ z) here in
    let zero_more : 0 + length before ≡ length before = omega arith in
    ap (λ z. get_or z k 0) all ∙ get_or_at (offsets_from 0 id before) (0 + length before) behind 0 k (length-offsets 0 id before ∙ is) ∙ zero_more

begins_with : (id : ℤ) (before : List Stored) (bodies : List Record) (after : List Stored) (k : ℕ) → 0 < length bodies → count_of id before ≡ k
    → get_or (own_offsets (id ∷ []) (before ++ (stored_as id bodies ++ after))) k 0 ≡ length before
begins_with id before [] after k some is = absurd (omega arith)
begins_with id before (r ∷ rs) after k some is = begins id before r (stored_as id rs ++ after) k is

-- ---- where a batch stands

-- a batch that stands in the log stands at its offset
pub stands_at : (records : List Stored) (b : Sent) (base : ℤ) → 0 < length b.bodies → Stands records b base → pos (offset_in records b) ≡ base
stands_at records b base some s =
    ap (λ z. pos (get_or (own_offsets (pos b.id ∷ []) z) b.sequence 0)) s.split
    ∙ ap pos (begins_with (pos b.id) s.before b.bodies s.after b.sequence some s.place)
    ∙ sym s.offset

-- records that are appended leave it there
pub stands_still : (records more : List Stored) (b : Sent) (base : ℤ) → Stands records b base → Stands (records ++ more) b base
stands_still records more b base s = record {
  before = s.before;
  after = s.after ++ more;
  split = ap (λ z. z ++ more) s.split ∙ append_assoc s.before (stored_of b ++ s.after) more ∙ ap (λ z. s.before ++ z) (append_assoc (stored_of b) s.after more);
  offset = s.offset;
  place = s.place;
}

pub stored_still : (records more : List Stored) (b : Sent) → IsStored records b → IsStored (records ++ more) b
stored_still records more b h = record { some_records = h.some_records; base = h.base; stands = stands_still records more b h.base h.stands }

-- a batch that is appended at the count of its id stands at the end
pub stands_last : (records : List Stored) (b : Sent) → count_of (pos b.id) records ≡ b.sequence → Stands (records ++ stored_of b) b (pos (length records))
stands_last records b is = record {
  before = records;
  after = [];
  split = ap (λ z. records ++ z) (sym (append-nil (stored_of b)));
  offset = refl;
  place = is;
}

-- ---- what is kept of the batches

pub span_still : (records more : List Stored) (b : Sent) → IsStored records b → span_in (records ++ more) b ≡ span_in records b
span_still records more b h =
    let there : pos (offset_in (records ++ more) b) ≡ pos (offset_in records b) = stands_at (records ++ more) b h.base h.some_records (stands_still records more b h.base h.stands) ∙ sym (stands_at records b h.base h.some_records h.stands) in
    ap (λ o. let span : Span = record { base_sequence = pos b.sequence; count = length b.bodies; base_offset = o } in span) there

pub span_last : (records : List Stored) (b : Sent) → 0 < length b.bodies → count_of (pos b.id) records ≡ b.sequence
    → span_in (records ++ stored_of b) b ≡ record { base_sequence = pos b.sequence; count = length b.bodies; base_offset = pos (length records) }
span_last records b some is =
    ap (λ o. let span : Span = record { base_sequence = pos b.sequence; count = length b.bodies; base_offset = o } in span) (stands_at (records ++ stored_of b) b (pos (length records)) some (stands_last records b is))
