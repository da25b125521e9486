-- Sizes of fields, of records and of batches.
use Rattle.std.proofs.Common.{◌≡◌, ℕ, zero, suc, ◌+◌, ◌-◌, ◌/◌, ◌<◌, ◌≤◌, List, [], ◌∷◌, ◌++◌, length, map, get_or, drop, ℤ, pos, negsuc, Option, Some, None, inl, inr, refl, sym, ap, subst, ◌∙◌, arith}
use Rattle.std.specs.Prelude.{FitsSigned}
use Rattle.std.specs.Int.{w32, w64}
use Rattle.std.specs.List.{flat_map, AllByRecursion}
use Rattle.std.specs.Str.{IsUtf8}
use Rattle.std.proofs.lemmas.Bool.{cases_lt}
use Rattle.std.proofs.lemmas.Bool.Decides.{nat_tests}
use Rattle.std.proofs.lemmas.List.{length-append, length-map, drop_all, append-nil, nil_from_length}
use Rattle.kp_wire.proofs.ListLemmas.{drop_here, length-flat_map-cons, length-flat_map-some}
use Rattle.kp_batch.proofs.RelativeLemmas.{length-relatives_from, relatives_from-here}
use Rattle.kp_wire.specs.Varint.{varint, varlong, zigzag, groups}
use Rattle.kp_wire.proofs.VarintLemmas.{groups_some, length-groups_none, length-groups_last, length-groups_more}
use Rattle.kp_batch.specs.declared.record.Header.{Header}
use Rattle.kp_batch.specs.declared.record.Record.{Record}
use Rattle.kp_batch.specs.declared.relative.RelativeRecord.{RelativeRecord}
use Rattle.kp_batch.specs.Record.{attributes, length_field, bytes_or_null, text, header, headers, fields, fields_size, relative_record}
use Rattle.kp_batch.specs.Spelling.{relative, relatives_from, base_timestamp, measured, up_to_limit, size_of_batch}

-- the bytes of the records from place k on
abbrev pub bytes_from : ℕ → ℕ → List Record → ℕ
bytes_from base k rs = length (flat_map relative_record.spell (relatives_from base k rs))

-- ---- measured sizes

pub measured_small : (n : ℕ) → n ≤ 2147483647 → measured n ≡ n
unfolding measured
measured_small n h = grind (arith, nat_tests)

pub measured_large : (n : ℕ) → 2147483647 < n → measured n ≡ 18446744073709551615
unfolding measured
measured_large n h = grind (arith, nat_tests)

pub small_measured : (n m : ℕ) → n ≡ measured m → n ≤ 2147483647 → n ≡ m
unfolding measured
small_measured n m e h = grind (arith, nat_tests)

pub large_measured : (n m : ℕ) → n ≡ measured m → 2147483647 < n → (n ≡ 18446744073709551615) × (2147483647 < m)
unfolding measured
large_measured n m e h = (grind (arith, nat_tests), grind (arith, nat_tests))

-- ---- the most that a number takes

pub groups_few : (more n : ℕ) → length (groups more n) ≤ more + 1
groups_few zero n = omega (arith, length-groups_none 0 n refl)
groups_few (suc more) n =
    let one : suc more - 1 ≡ more = omega arith in
    let rest = groups_few more (n / 128) in
    elim (cases_lt n 128) [
      | inl lt ↦ omega (arith, length-groups_last (suc more) n lt)
      | inr ge ↦ omega (arith, rest, length-groups_more (suc more) n (omega arith) ge, ap (λ (k : ℕ). length (groups k (n / 128))) one)
    ]

pub varint_few : (z : ℤ) → length (varint.spell z) ≤ 5
varint_few z = groups_few 4 (zigzag z)

pub varlong_few : (z : ℤ) → length (varlong.spell z) ≤ 10
varlong_few z = groups_few 9 (zigzag z)

-- ---- sizes that are told up to the limit

pub told_small : (n m : ℕ) → up_to_limit n ≡ up_to_limit m → n ≤ 2147483647 → n ≡ m
told_small n m e h = omega arith

pub told_large : (n m : ℕ) → up_to_limit n ≡ up_to_limit m → 2147483647 < n → 2147483647 < m
told_large n m e h = omega arith

pub told_sum : (a b m n : ℕ) → up_to_limit a ≡ up_to_limit m → up_to_limit b ≡ up_to_limit n → up_to_limit (a + b) ≡ up_to_limit (m + n)
told_sum a b m n e f = omega arith

pub size_of_batch-is : (rs : List Record) → size_of_batch rs ≡ 61 + bytes_from (base_timestamp rs) 0 rs
unfolding size_of_batch
size_of_batch-is rs = refl

-- ---- fields

pub length-some : (s : List ℕ) → length ((bytes_or_null 0).spell (Some s)) ≡ length (varint.spell (pos (length s))) + length s
unfolding bytes_or_null length_field
length-some s = length-append (varint.spell (pos (length s))) s

pub length-header : (h : Header) → length ((header 0).spell h) ≡ (length (varint.spell (pos (length h.key))) + length h.key) + length ((bytes_or_null 0).spell h.value)
unfolding header text length_field
length-header h =
    length-append (varint.spell (pos (length h.key)) ++ h.key) ((bytes_or_null 0).spell h.value)
    ∙ ap (λ (n : ℕ). n + length ((bytes_or_null 0).spell h.value)) (length-append (varint.spell (pos (length h.key))) h.key)

pub length-headers : (hs : List Header) → length ((headers 0).spell hs) ≡ length (varint.spell (pos (length hs))) + length (flat_map (header 0).spell hs)
unfolding headers length_field
length-headers hs = length-append (varint.spell (pos (length hs))) (flat_map (header 0).spell hs)

pub no_headers : (hs : List Header) → length hs ≡ 0 → (headers 0).spell hs ≡ varint.spell (pos 0)
unfolding headers length_field
no_headers hs none = rw (nil_from_length hs none) (append-nil (varint.spell (pos 0)))

pub room_for_some : (s : List ℕ) → length ((bytes_or_null 0).spell (Some s)) ≤ length s + 5
room_for_some s = omega (arith, length-some s, varint_few (pos (length s)))

pub room_for_none : length ((bytes_or_null 0).spell None) ≤ 5
unfolding bytes_or_null length_field
room_for_none = varint_few (negsuc 0)

-- what is within the limit has a length that can be told
pub nullable_fits : (b : Option (List ℕ)) → length ((bytes_or_null 0).spell b) ≤ 2147483647 → (bytes_or_null 0).Fits b
unfolding bytes_or_null length_field
nullable_fits None small = let none : FitsSigned w32 (negsuc 0) = record { sfits = omega arith } in none
nullable_fits (Some s) small = let len : FitsSigned w32 (pos (length s)) = record { sfits = omega (arith, length-some s) } in (len, refl)

pub no_headers_fit : (hs : List Header) → length hs ≡ 0 → (headers 0).Fits hs
unfolding headers length_field
no_headers_fit [] none = let len : FitsSigned w32 (pos 0) = record { sfits = omega arith } in (len, (refl, tt))
no_headers_fit (h ∷ hs) none = absurd (omega arith)

pub key_is_short : (h : Header) → (header 0).Fits h → length h.key ≤ 2147483647
unfolding header text length_field
key_is_short h fits = omega (arith, fits.0.0.sfits)

pub value_fits : (h : Header) → (header 0).Fits h → (bytes_or_null 0).Fits h.value
unfolding header
value_fits h fits = fits.1

pub header_fits : (h : Header) → length h.key ≤ 2147483647 → IsUtf8 h.key → (bytes_or_null 0).Fits h.value → (header 0).Fits h
unfolding header text length_field
header_fits h short text value = let len : FitsSigned w32 (pos (length h.key)) = record { sfits = omega arith } in ((len, (refl, text)), value)

-- one header more that fits
pub header_more : (hs : List Header) (k : ℕ) (h : Header) (P : Type 0) → k < length hs → h ≡ get_or hs k h → (header 0).Fits h
    → (AllByRecursion (header 0).Fits (drop k hs) → P) → AllByRecursion (header 0).Fits (drop (k + 1) hs) → P
header_more hs k h P lt e here so_far rest = so_far (subst (AllByRecursion (header 0).Fits) (sym (drop_here hs k h lt e)) (here, rest))

pub headers_fit : (hs : List Header) (k : ℕ) → length hs ≤ 2147483647 → length hs ≤ k → (AllByRecursion (header 0).Fits (drop k hs) → AllByRecursion (header 0).Fits hs)
    → (headers 0).Fits hs
unfolding headers length_field
headers_fit hs k few end fits =
    let len : FitsSigned w32 (pos (length hs)) = record { sfits = omega arith } in
    (len, (refl, fits (subst (AllByRecursion (header 0).Fits) (sym (drop_all k hs end)) tt)))

pub ruleset room_laws = (room_for_some, room_for_none)

pub fields_size-parts : (r : RelativeRecord) → fields_size r ≡ 1 + length (varlong.spell r.timestamp_delta) + length (varint.spell r.offset_delta) + ((length ((bytes_or_null 0).spell r.key) + length ((bytes_or_null 0).spell r.value)) + length ((headers 0).spell r.headers))
unfolding fields attributes
fields_size-parts r =
    let k = (bytes_or_null 0).spell r.key in
    let v = (bytes_or_null 0).spell r.value in
    let h = (headers 0).spell r.headers in
    let i = varint.spell r.offset_delta in
    let t = varlong.spell r.timestamp_delta in
    omega (arith, length-append (0 ∷ []) (t ++ (i ++ (k ++ (v ++ h)))), length-append t (i ++ (k ++ (v ++ h))), length-append i (k ++ (v ++ h)), length-append k (v ++ h), length-append v h)

pub fields_fit : (r : RelativeRecord) → FitsSigned w64 r.timestamp_delta → FitsSigned w32 r.offset_delta → (headers 0).Fits r.headers → fields_size r ≤ 2147483647 → (fields 0).Fits r
unfolding fields attributes
fields_fit r delta offset fit small =
    let parts = fields_size-parts r in
    (tt, (delta, (offset, (nullable_fits r.key (omega (arith, parts, small)), (nullable_fits r.value (omega (arith, parts, small)), fit)))))

-- ---- records

pub length-relative_record : (r : RelativeRecord) → length (relative_record.spell r) ≡ length (varint.spell (pos (fields_size r))) + fields_size r
unfolding relative_record
length-relative_record r = length-append (varint.spell (pos (fields_size r))) ((fields 0).spell r)

pub some_bytes : (r : RelativeRecord) → 0 < length (relative_record.spell r)
some_bytes r = omega (arith, length-relative_record r, fields_size-parts r)

pub bytes_from-cons : (base k : ℕ) (r : Record) (rs : List Record) → bytes_from base k (r ∷ rs) ≡ length (relative_record.spell (relative base k r)) + bytes_from base (suc k) rs
bytes_from-cons base k r rs = length-flat_map-cons relative_record.spell (relative base k r) (relatives_from base (suc k) rs)

pub bytes_from-here : (base k : ℕ) (rs : List Record) (r : Record) → k < length rs → r ≡ get_or rs k r → bytes_from base k (drop k rs) ≡ length (relative_record.spell (relative base k r)) + bytes_from base (k + 1) (drop (k + 1) rs)
bytes_from-here base k rs r lt e =
    let behind = relatives_from base (k + 1) (drop (k + 1) rs) in
    ap (λ (x : List RelativeRecord). length (flat_map relative_record.spell x)) (relatives_from-here base k rs r lt e) ∙ length-flat_map-cons relative_record.spell (relative base k r) behind

pub length-headers_step : (hs : List Header) (k : ℕ) (h : Header) → k < length hs → h ≡ get_or hs k h → length (flat_map (header 0).spell (drop k hs)) ≡ length ((header 0).spell h) + length (flat_map (header 0).spell (drop (k + 1) hs))
length-headers_step hs k h lt e =
    ap (λ (x : List Header). length (flat_map (header 0).spell x)) (drop_here hs k h lt e) ∙ length-flat_map-cons (header 0).spell h (drop (k + 1) hs)

-- each header has a byte at least
pub some_header : (h : Header) → 0 < length ((header 0).spell h)
some_header h = omega (arith, length-header h, groups_some 4 (zigzag (pos (length h.key))))

pub many_headers : (hs : List Header) → length hs ≤ length (flat_map (header 0).spell hs)
many_headers hs = length-flat_map-some (header 0).spell some_header hs

-- the records behind the last have no bytes
pub bytes_from-none : (base k : ℕ) (rs : List Record) → length rs ≤ k → bytes_from base k (drop k rs) ≡ 0
bytes_from-none base k rs le = ap (bytes_from base k) (drop_all k rs le)

pub ruleset size_laws = (length-header, length-headers, fields_size-parts, length-relative_record)

-- each record has a byte at least
pub many_records : (base k : ℕ) (rs : List Record) → length rs ≤ bytes_from base k rs
many_records base k rs = omega (arith, length-flat_map-some relative_record.spell some_bytes (relatives_from base k rs), length-relatives_from base k rs)

-- so does each item that has one
pub many_items : {T : Type 0} (record_in : T → Record) (items : List T) → length items ≤ size_of_batch (map record_in items)
many_items record_in items =
    let rs = map record_in items in
    omega (arith, size_of_batch-is rs, many_records (base_timestamp rs) 0 rs, length-map items record_in)

-- ---- one record more

bytes_from-last : (base k n : ℕ) (rs : List Record) (r : Record) → k + length rs ≡ n → bytes_from base k (rs ++ r ∷ []) ≡ bytes_from base k rs + length (relative_record.spell (relative base n r))
bytes_from-last base k n [] r e =
    let at : k ≡ n = omega (arith, e) in
    omega (arith, bytes_from-cons base k r [], ap (λ (m : ℕ). length (relative_record.spell (relative base m r))) at)
bytes_from-last base k n (x ∷ rs) r e =
    let at : suc k + length rs ≡ n = omega (arith, e) in
    omega (arith, bytes_from-last base (suc k) n rs r at, bytes_from-cons base k x (rs ++ r ∷ []), bytes_from-cons base k x rs)

pub size_of_batch-last : (rs : List Record) (r : Record) → size_of_batch (rs ++ r ∷ []) ≡ size_of_batch rs + length (relative_record.spell (relative (base_timestamp (rs ++ r ∷ [])) (length rs) r))
size_of_batch-last [] r =
    let at : 0 + length {A = Record} [] ≡ length {A = Record} [] = omega arith in
    omega (arith, size_of_batch-is (r ∷ []), size_of_batch-is [], bytes_from-last r.timestamp 0 (length {A = Record} []) [] r at)
size_of_batch-last (x ∷ rs) r =
    let at : 0 + length (x ∷ rs) ≡ length (x ∷ rs) = omega arith in
    omega (arith, size_of_batch-is (x ∷ rs ++ r ∷ []), size_of_batch-is (x ∷ rs), bytes_from-last x.timestamp 0 (length (x ∷ rs)) (x ∷ rs) r at)
