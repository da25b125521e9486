-- Where the records of segments stand, and which of them are under which ids.
use Rattle.std.proofs.Common.{◌≡◌, ℕ, zero, suc, ◌+◌, ◌-◌, ◌^◌, ◌<◌, ◌≤◌, Bool, true, false, cond, List, [], ◌∷◌, ◌++◌, length, map, take, get_or, ℤ, Some, None, refl, sym, ap, ◌∙◌, arith, ltb, add-one}
use Rattle.std.specs.List.{slice_get, filter, enumerate_from}
use Rattle.std.proofs.lemmas.Bool.{ltb-true, ltb-false, le-ltb, lt-ltb}
use Rattle.std.proofs.lemmas.Bool.Decides.{nat_tests}
use Rattle.std.proofs.lemmas.List.{length-append, length-take-le, get_or-take, take_more, flat_map_more, map-append, append-nil}
use Rattle.std.proofs.lemmas.Option.{slice_get_past, slice_get_within, get_or_from_slice_get}
use Rattle.kp_wire.proofs.ChoiceLemmas.{cond_under}
use Rattle.kp_batch.specs.declared.record.Record.{Record}
use Rattle.kp_log.specs.declared.stored.Stored.{Stored}
use Rattle.kp_log.specs.declared.segments.Segment.{Segment}
use Rattle.kp_log.specs.Log.{stored_as}
use Rattle.kp_log.specs.History.{is_under, own_offsets}
use Rattle.kp_log.specs.Segments.{FULL, lengthened, segments_with, records_of, lengths_of, begun, own_from, AreFullFrom, AreBegunBy, AreInPlace}
use Rattle.kp_log.proofs.LogLemmas.{length-stored_as}

-- ---- a record at an offset

pub slice_get_left : {X : Type 0} (xs ys : List X) (k : ℕ) → k < length xs → slice_get (xs ++ ys) k ≡ slice_get xs k
slice_get_left [] ys k lt = absurd (omega arith)
slice_get_left (x ∷ xs) ys zero lt = refl
slice_get_left (x ∷ xs) ys (suc k) lt = slice_get_left xs ys k (omega arith)

pub slice_get_right : {X : Type 0} (xs ys : List X) (j k : ℕ) → j ≡ length xs + k → slice_get (xs ++ ys) j ≡ slice_get ys k
slice_get_right [] ys j k is = let same : j ≡ k = omega arith in ap (slice_get ys) same
slice_get_right (x ∷ xs) ys zero k is = absurd (omega arith)
slice_get_right (x ∷ xs) ys (suc j) k is = slice_get_right xs ys j k (omega arith)

-- no segment begins before the first
first_least : (xs : List Segment) (n : ℕ) → AreFullFrom n xs → (j : ℕ) (d : Segment) → j < length xs → n ≤ (get_or xs j d).first
first_least [] n h j d lt = absurd (omega arith)
first_least (s ∷ later) n h zero d lt = omega (arith, h.0)
first_least (s ∷ later) n h (suc j) d lt =
    let rest : n + length s.records.items ≤ (get_or later j d).first = first_least later (n + length s.records.items) h.2 j d (omega arith) in
    omega arith

-- the segments' first offsets do not fall
pub firsts_rise : (xs : List Segment) (n : ℕ) → AreFullFrom n xs → (i j : ℕ) (d : Segment) → i ≤ j → j < length xs → (get_or xs i d).first ≤ (get_or xs j d).first
firsts_rise [] n h i j d le lt = absurd (omega arith)
firsts_rise (s ∷ later) n h zero zero d le lt = omega arith
firsts_rise (s ∷ later) n h zero (suc j) d le lt =
    let rest : n + length s.records.items ≤ (get_or later j d).first = first_least later (n + length s.records.items) h.2 j d (omega arith) in
    omega (arith, h.0)
firsts_rise (s ∷ later) n h (suc i) zero d le lt = absurd (omega arith)
firsts_rise (s ∷ later) n h (suc i) (suc j) d le lt = firsts_rise later (n + length s.records.items) h.2 i j d (omega arith) (omega arith)

-- in the first segment, or behind all where there is no other
found_first : (s : Segment) (later : List Segment) (n : ℕ) → AreFullFrom n (s ∷ later) → (k : ℕ) (is_inside : Bool) → ltb k (length s.records.items) ≡ is_inside
    → ((e : Segment) → 1 < length (s ∷ later) → n + k < (get_or (s ∷ later) 1 e).first)
    → slice_get (records_of (s ∷ later)) k ≡ slice_get s.records.items k
found_first s later n h k true is ends = slice_get_left s.records.items (records_of later) k (ltb-true k (length s.records.items) is)
found_first s [] n h k false is ends =
    let past : length s.records.items ≤ k = ltb-false k (length s.records.items) is in
    slice_get_past (s.records.items ++ []) k (omega (arith, length-append s.records.items [])) ∙ sym (slice_get_past s.records.items k past)
found_first s (t ∷ later) n h k false is ends = absurd (omega (arith, ends t, h.2.0, ltb-false k (length s.records.items) is))

-- a record stands in the last of the segments that begin before it
found_in : (xs : List Segment) (n : ℕ) → AreFullFrom n xs → (i k at : ℕ) (d : Segment) → at ≡ n + k → i < length xs
    → (get_or xs i d).first ≤ at → ((e : Segment) → i + 1 < length xs → at < (get_or xs (i + 1) e).first)
    → slice_get (records_of xs) k ≡ slice_get (get_or xs i d).records.items (at - (get_or xs i d).first)
found_in [] n h i k at d is within begins ends = absurd (omega arith)
found_in (s ∷ later) n h zero k at d is within begins ends =
    let place : k ≡ at - s.first = omega (arith, h.0) in
    let next : (e : Segment) → 1 < length (s ∷ later) → n + k < (get_or (s ∷ later) 1 e).first = λ e lt. omega (arith, ends e) in
    found_first s later n h k (ltb k (length s.records.items)) refl next ∙ ap (slice_get s.records.items) place
found_in (s ∷ later) n h (suc i) k at d is within begins ends =
    let least : n + length s.records.items ≤ (get_or later i d).first = first_least later (n + length s.records.items) h.2 i d (omega arith) in
    let next : (e : Segment) → i + 1 < length later → at < (get_or later (i + 1) e).first = λ e lt. simp add-one (simp add-one at (ends e (omega arith))) in
    slice_get_right s.records.items (records_of later) k (k - length s.records.items) (omega arith)
    ∙ found_in later (n + length s.records.items) h.2 i (k - length s.records.items) at d (omega arith) (omega arith) begins next

pub none_begun : (xs : List Segment) → AreFullFrom 0 xs → (at later : ℕ) → AreBegunBy xs at later → length (take later xs) ≤ 0
    → slice_get (records_of xs) at ≡ None
none_begun [] h at later point none = refl
none_begun (s ∷ rest) h at zero point none = absurd (omega (arith, h.0, point.1 0 s (omega arith) (omega arith)))
none_begun (s ∷ rest) h at (suc later) point none = absurd (omega arith)

pub record IsFound (xs : List Segment) (at : ℕ) (s : Segment) : Type 0 where
  pub begins : s.first ≤ at
  pub found : slice_get (records_of xs) at ≡ slice_get s.records.items (at - s.first)

pub last_begun : (xs : List Segment) → AreFullFrom 0 xs → (at later : ℕ) (s : Segment) → later ≤ length xs → AreBegunBy xs at later
    → Some s ≡ slice_get (take later xs) (length (take later xs) - 1) → IsFound xs at s
last_begun xs h at later s le point is =
    let within : length (take later xs) - 1 < length (take later xs) = slice_get_within (take later xs) (length (take later xs) - 1) s (sym is) in
    let len : length (take later xs) ≡ later = length-take-le later xs le in
    let taken : get_or (take later xs) (later - 1) s ≡ get_or xs (later - 1) s = get_or-take later xs (later - 1) s (omega arith) in
    let last : get_or xs (later - 1) s ≡ s = sym taken ∙ (ap (λ n. get_or (take later xs) (n - 1) s) (sym len) ∙ get_or_from_slice_get (take later xs) (length (take later xs) - 1) s s (sym is)) in
    let begins : (get_or xs (later - 1) s).first ≤ at = point.0 (later - 1) s (omega arith) (omega arith) in
    let next : (e : Segment) → later - 1 + 1 < length xs → at < (get_or xs (later - 1 + 1) e).first = λ e lt. point.1 (later - 1 + 1) e (omega arith) lt in
    record {
      begins = rw last at begins;
      found = found_in xs 0 h (later - 1) at at s (omega arith) (omega arith) begins next ∙ ap (λ (t : Segment). slice_get t.records.items (at - t.first)) last;
    }

-- ---- where segments stand

length_front : (s : Segment) (later : List Segment) → length (records_of (s ∷ later)) ≡ length s.records.items + length (records_of later)
length_front s later = length-append s.records.items (records_of later)

-- a segment begins behind the records before it
pub begins_behind : (xs : List Segment) (n : ℕ) → AreFullFrom n xs → (i : ℕ) (d : Segment) → i < length xs
    → (get_or xs i d).first ≡ n + length (records_of (take i xs))
begins_behind [] n h i d within = absurd (omega arith)
begins_behind (s ∷ later) n h zero d within = omega (arith, h.0)
begins_behind (s ∷ later) n h (suc i) d within =
    let rest : (get_or later i d).first ≡ n + length s.records.items + length (records_of (take i later)) = begins_behind later (n + length s.records.items) h.2 i d (omega arith) in
    omega (arith, length_front s (take i later))

-- and ends before the end
pub ends_within : (xs : List Segment) (n : ℕ) → AreFullFrom n xs → (i : ℕ) (d : Segment) → i < length xs
    → (get_or xs i d).first + length (get_or xs i d).records.items ≤ n + length (records_of xs)
ends_within [] n h i d within = absurd (omega arith)
ends_within (s ∷ later) n h zero d within = omega (arith, h.0, length_front s later)
ends_within (s ∷ later) n h (suc i) d within =
    let rest : (get_or later i d).first + length (get_or later i d).records.items ≤ n + length s.records.items + length (records_of later) = ends_within later (n + length s.records.items) h.2 i d (omega arith) in
    omega (arith, length_front s later)

-- ---- one segment more

AreFullFrom-push : (xs : List Segment) (n : ℕ) (s : Segment) → AreFullFrom n xs → s.first ≡ n + length (records_of xs) → FULL ≤ length s.records.items
    → AreFullFrom n (xs ++ s ∷ [])
AreFullFrom-push [] n s h first full = (omega arith, full, tt)
AreFullFrom-push (x ∷ xs) n s h first full =
    (h.0, h.1, AreFullFrom-push xs (n + length x.records.items) s h.2 (omega (arith, length_front x xs)) full)

-- the last segment is full and is put to the full ones
pub AreInPlace-push : (full : List Segment) (first : ℕ) (last : List Stored) (s : Segment) → AreInPlace full first last → s.first ≡ first
    → FULL ≤ length s.records.items → length (records_of full) + length s.records.items < 2 ^ 64
    → (more : List Segment) (next : ℕ) (none : List Stored) → more ≡ full ++ s ∷ [] → next ≡ first + length s.records.items → none ≡ []
    → AreInPlace more next none
AreInPlace-push full first last s h begins long fits more next none pushed behind empty =
    let all : length (records_of more) ≡ length (records_of full) + length s.records.items =
    ap (λ xs. length (records_of xs)) pushed
    ∙ ap length (sym (flat_map_more (λ (t : Segment). t.records.items) [] full s)) ∙ length-append (records_of full) s.records.items in
    let len : length none ≡ 0 = ap length empty in
    record {
      before = rw pushed (AreFullFrom-push full 0 s h.before (omega (arith, h.offset)) long);
      offset = omega (arith, h.offset);
      takes_more = omega arith;
      in_length = omega arith;
    }

begun_some : (k : ℕ) → 0 < k → begun k ≡ k ∷ []
begun_some k some = grind (arith, nat_tests)

-- ---- the rule

one_full : (m k added : ℕ) → FULL ≤ m → k < FULL → 0 < added → lengthened added m (begun k) ≡ m ∷ begun (k + added)
one_full m zero added full takes_more some =
    let same : added ≡ 0 + added = omega arith in
    rw (le-ltb m FULL full) (ap (λ z. m ∷ z) (sym (begun_some added some) ∙ ap begun same))
one_full m (suc k) added full takes_more some =
    rw (begun_some (suc k) (omega arith), lt-ltb (suc k) FULL takes_more) (ap (λ z. m ∷ z) (sym (begun_some (suc k + added) (omega arith))))

lengthened_behind : (later : List Segment) (n m : ℕ) → AreFullFrom n later → FULL ≤ m → (k added : ℕ) → k < FULL → 0 < added
    → lengthened added m (lengths_of later ++ begun k) ≡ m ∷ (lengths_of later ++ begun (k + added))
lengthened_behind [] n m h full k added takes_more some = one_full m k added full takes_more some
lengthened_behind (s ∷ later) n m h full k added takes_more some =
    ap (λ z. m ∷ z) (lengthened_behind later (n + length s.records.items) (length s.records.items) h.2 h.1 k added takes_more some)

only_begun : (k added : ℕ) → k < FULL → segments_with (suc added) (begun k) ≡ begun (k + suc added)
only_begun zero added takes_more =
    let same : suc added ≡ 0 + suc added = omega arith in
    sym (begun_some (suc added) (omega arith)) ∙ ap begun same
only_begun (suc k) added takes_more =
    rw (begun_some (suc k) (omega arith), lt-ltb (suc k) FULL takes_more) (sym (begun_some (suc k + suc added) (omega arith)))

-- an append lengthens the last segment, where those before it are full
pub segments_behind : (full : List Segment) → AreFullFrom 0 full → (k added : ℕ) → k < FULL
    → segments_with added (lengths_of full ++ begun k) ≡ lengths_of full ++ begun (k + added)
segments_behind full h k zero takes_more = let same : k ≡ k + 0 = omega arith in ap (λ n. lengths_of full ++ begun n) same
segments_behind [] h k (suc added) takes_more = only_begun k added takes_more
segments_behind (s ∷ later) h k (suc added) takes_more =
    lengthened_behind later (0 + length s.records.items) (length s.records.items) h.2 h.1 k (suc added) takes_more (omega arith)

-- a segment that is put to the full ones is begun
pub lengths_of-push : (full : List Segment) (s : Segment) (k : ℕ) → length s.records.items ≡ k → FULL ≤ k
    → lengths_of (full ++ s ∷ []) ++ begun 0 ≡ lengths_of full ++ begun k
lengths_of-push full s k is long =
    rw (map-append, append-nil, begun_some k (omega arith)) (ap (λ n. lengths_of full ++ n ∷ []) is)

pub length_with : (last next : List Stored) (id : ℤ) (bodies : List Record) → next ≡ last ++ stored_as id bodies → length next ≡ length last + length bodies
length_with last next id bodies is =
    ap length is ∙ length-append last (stored_as id bodies) ∙ ap (λ n. length last + n) (length-stored_as id bodies)

-- ---- the offsets of the records under some ids

pub own_offsets_are : (ids : List ℤ) (records : List Stored) → own_offsets ids records ≡ own_from 0 ids records
unfolding own_offsets
own_offsets_are ids records = refl

pub own_from-cons : (n : ℕ) (ids : List ℤ) (s : Stored) (rest : List Stored)
    → own_from n ids (s ∷ rest) ≡ cond (is_under ids s) (n ∷ own_from (n + 1) ids rest) (own_from (n + 1) ids rest)
own_from-cons n ids s rest =
    let behind = filter (λ (at : ℕ × Stored). is_under ids at.1) (enumerate_from (n + 1) rest) in
    cond_under (map (λ (at : ℕ × Stored). at.0)) (is_under ids s) ((n, s) ∷ behind) behind

pub own_from-append : (n : ℕ) (ids : List ℤ) (xs ys : List Stored)
    → own_from n ids (xs ++ ys) ≡ own_from n ids xs ++ own_from (n + length xs) ids ys
own_from-append n ids [] ys = let same : n ≡ n + 0 = omega arith in ap (λ k. own_from k ids ys) same
own_from-append n ids (x ∷ xs) ys =
    let same : n + 1 + length xs ≡ n + suc (length xs) = omega arith in
    let deeper : own_from (n + 1) ids (xs ++ ys) ≡ own_from (n + 1) ids xs ++ own_from (n + suc (length xs)) ids ys = own_from-append (n + 1) ids xs ys ∙ ap (λ k. own_from (n + 1) ids xs ++ own_from k ids ys) same in
    own_from-cons n ids x (xs ++ ys)
    ∙ ap (λ z. cond (is_under ids x) (n ∷ z) z) deeper
    ∙ sym (cond_under (λ (z : List ℕ). z ++ own_from (n + suc (length xs)) ids ys) (is_under ids x) (n ∷ own_from (n + 1) ids xs) (own_from (n + 1) ids xs))
    ∙ ap (λ z. z ++ own_from (n + suc (length xs)) ids ys) (sym (own_from-cons n ids x xs))

-- those of one segment more
pub own_from-more : (xs : List Segment) → AreFullFrom 0 xs → (ids : List ℤ) (i : ℕ) (d : Segment) → i < length xs
    → own_from 0 ids (records_of (take (i + 1) xs))
    ≡ own_from 0 ids (records_of (take i xs)) ++ own_from (get_or xs i d).first ids (get_or xs i d).records.items
own_from-more xs h ids i d within =
    let more : records_of (take (i + 1) xs) ≡ records_of (take i xs) ++ (get_or xs i d).records.items =
    ap records_of (take_more xs i d within) ∙ sym (flat_map_more (λ (s : Segment). s.records.items) [] (take i xs) (get_or xs i d)) in
    ap (own_from 0 ids) more ∙ own_from-append 0 ids (records_of (take i xs)) (get_or xs i d).records.items
    ∙ ap (λ n. own_from 0 ids (records_of (take i xs)) ++ own_from n ids (get_or xs i d).records.items) (sym (begins_behind xs 0 h i d within))
