-- A batch of records that a program can hold has a spelling where its size is that of one.
use Rattle.std.proofs.Common.{◌≡◌, ℕ, suc, ◌+◌, ◌-◌, ◌*◌, ◌^◌, ◌<◌, ◌≤◌, List, [], ◌∷◌, length, Option, Some, None, pos, negsuc, inl, inr, refl, arith}
use Rattle.std.specs.Prelude.{FitsSigned, ◌-ℤ◌}
use Rattle.std.specs.Int.{w32, w64}
use Rattle.std.specs.List.{flat_map, AllByRecursion}
use Rattle.std.specs.Str.{IsUtf8}
use Rattle.std.proofs.lemmas.Bool.{cases_lt}
use Rattle.std.proofs.lemmas.Int.{ints}
use Rattle.kp_wire.specs.Checksum.{number, inverted, remainder, dividend, crc}
use Rattle.kp_wire.proofs.ChecksumLemmas.{checksum_divides}
use Rattle.kp_wire.proofs.ListLemmas.{length-flat_map-cons}
use Rattle.kp_batch.specs.declared.batch.BatchHead.{BatchHead}
use Rattle.kp_batch.specs.declared.record.Header.{Header}
use Rattle.kp_batch.specs.declared.record.Record.{Record}
use Rattle.kp_batch.specs.Record.{attributes, length_field, bytes_or_null, text, header, headers, fields, relative_record}
use Rattle.kp_batch.specs.Spelling.{head, covered, spelling, size_of_batch, written, relative, relatives_from, base_timestamp, max_timestamp, HasFields, HasSpelling}
use Rattle.kp_batch.proofs.RelativeLemmas.{HasMoment}
use Rattle.kp_batch.proofs.SizeLemmas.{bytes_from, size_of_batch-is, length-some, length-header, length-headers, fields_size-parts, length-relative_record, some_bytes, bytes_from-cons, many_headers, many_records}
use Rattle.kp_batch.proofs.WritingLemmas.{record_fits, summary_fits, batch_spelled}
use Rattle.kp_batch.proofs.BatchLemmas.{length-covered, length-spelling}
use Rattle.kp_rules.specs.Held.{IsRecord}
use Rattle.kp_rules.proofs.ListLemmas.{all_weaker}

-- ---- the checksum has 32 bits

number_below : (bs : List ℕ) → number (inverted bs) < 2 ^ length bs
unfolding number
number_below [] = omega arith
number_below (b ∷ bs) =
    let twice : 2 ^ suc (length bs) ≡ 2 * 2 ^ length bs = grind arith in
    omega (arith, twice, number_below bs)

crc_below : (bytes : List ℕ) → crc bytes < 2 ^ 32
unfolding crc
crc_below bytes =
    let rest = remainder (8 * length bytes) (dividend bytes) in
    let low : length rest ≡ 32 = (checksum_divides bytes).low in
    let below : number (inverted rest) < 2 ^ 32 = rw low at (number_below rest) in below

-- ---- a record fits where its size does

pub int32_fits : (n : ℕ) → n < 2 ^ 31 → FitsSigned w32 (pos n)
int32_fits n small = record { sfits = small }

bytes_fit : (o : Option (List ℕ)) → length ((bytes_or_null 0).spell o) ≤ 2147483647 → (bytes_or_null 0).Fits o
unfolding bytes_or_null length_field
bytes_fit None small = omega arith
bytes_fit (Some s) small = (int32_fits (length s) (omega (arith, length-some s)), refl)

header_fits : (h : Header) → IsUtf8 h.key → length ((header 0).spell h) ≤ 2147483647 → (header 0).Fits h
unfolding header text length_field
header_fits h key small =
    ((int32_fits (length h.key) (omega (arith, length-header h)), (refl, key)), bytes_fit h.value (omega (arith, length-header h)))

each_header_fits : (hs : List Header) → AllByRecursion (λ h. IsUtf8 h.key) hs
    → length (flat_map (header 0).spell hs) ≤ 2147483647 → AllByRecursion (header 0).Fits hs
each_header_fits [] keys small = tt
each_header_fits (h ∷ hs) keys small =
    let parts = length-flat_map-cons (header 0).spell h hs in
    (header_fits h keys.0 (omega (arith, parts)), each_header_fits hs keys.1 (omega (arith, parts)))

headers_fit : (hs : List Header) → AllByRecursion (λ h. IsUtf8 h.key) hs → length ((headers 0).spell hs) ≤ 2147483647 → (headers 0).Fits hs
unfolding headers length_field
headers_fit hs keys small =
    let all : length (flat_map (header 0).spell hs) ≤ 2147483647 = omega (arith, length-headers hs) in
    (int32_fits (length hs) (omega (arith, many_headers hs)), (refl, each_header_fits hs keys all))

delta_fits : (t base : ℕ) → t < 2 ^ 63 → base < 2 ^ 63 → FitsSigned w64 (pos t -ℤ pos base)
delta_fits t base small base_small =
    elim (cases_lt t base) [
      | inl lt ↦ let e : pos t -ℤ pos base ≡ negsuc (base - t - 1) = omega (arith, ints) in rw e (record { sfits = omega arith })
      | inr ge ↦ let e : pos t -ℤ pos base ≡ pos (t - base) = omega (arith, ints) in rw e (record { sfits = omega arith })
    ]

relative_fits : (base k : ℕ) (r : Record) → IsRecord r → base < 2 ^ 63 → k ≤ 2147483647
    → length (relative_record.spell (relative base k r)) ≤ 2147483647 → relative_record.Fits (relative base k r)
unfolding fields attributes
relative_fits base k r is base_small few small =
    let x = relative base k r in
    let whole = length-relative_record x in
    let parts = fields_size-parts x in
    record_fits x (omega (arith, whole)) (
      tt,
      (
        delta_fits r.timestamp base is.moment base_small,
        (
          int32_fits k (omega arith),
          (
            bytes_fit r.key (omega (arith, whole, parts)),
            (
              bytes_fit r.value (omega (arith, whole, parts)),
              headers_fit r.headers is.keys (omega (arith, whole, parts)),
            ),
          ),
        ),
      ),
    )

relatives_fit : (base k : ℕ) (rs : List Record) → AllByRecursion IsRecord rs → base < 2 ^ 63
    → k + bytes_from base k rs ≤ 2147483647 → AllByRecursion relative_record.Fits (relatives_from base k rs)
relatives_fit base k [] are base_small small = tt
relatives_fit base k (r ∷ rs) are base_small small =
    let parts = bytes_from-cons base k r rs in (
      relative_fits base k r are.0 base_small (omega arith) (omega (arith, parts)),
      relatives_fit base (suc k) rs are.1 base_small (omega (arith, parts, some_bytes (relative base k r))),
    )

-- ---- the moments

first_is_moment : (rs : List Record) → AllByRecursion IsRecord rs → base_timestamp rs < 2 ^ 63
first_is_moment [] are = omega arith
first_is_moment (r ∷ rs) are = are.0.moment

latest_is_moment : (rs : List Record) → AllByRecursion IsRecord rs → max_timestamp rs < 2 ^ 63
latest_is_moment [] are = omega arith
latest_is_moment (r ∷ rs) are = omega (arith, are.0.moment, latest_is_moment rs are.1)

-- ---- the batch

pub length_spelled : (h : BatchHead) (rs : List Record) → length (spelling (written h rs)) ≡ size_of_batch rs
length_spelled h rs = omega (arith, length-spelling (written h rs), size_of_batch-is rs)

pub head_fits : (id sequence : ℕ) → id < 2 ^ 63 → sequence < 2 ^ 31
    → head.Fits (record { producer_id = pos id; epoch = pos 0; base_sequence = pos sequence })
unfolding head
head_fits id sequence small sequence_small = (record { sfits = small }, (record { sfits = omega arith }, record { sfits = sequence_small }))

fields_fit : (h : BatchHead) (rs : List Record) → AllByRecursion IsRecord rs → 0 < length rs
    → size_of_batch rs ≤ 2147483647 → head.Fits h → HasFields h rs
unfolding head
fields_fit h rs are some small fits =
    let size = size_of_batch-is rs in
    let base = first_is_moment rs are in
    let few : length rs ≤ 2147483647 = omega (arith, size, many_records (base_timestamp rs) 0 rs) in
    record {
      some = some;
      moments = all_weaker IsRecord HasMoment (λ r is. is.moment) rs are;
      summary = summary_fits h rs fits.0 fits.1.0 fits.1.1 some few base (latest_is_moment rs are);
      records = relatives_fit (base_timestamp rs) 0 rs are base (omega (arith, size));
    }

pub batch_fits : (h : BatchHead) (rs : List Record) → AllByRecursion IsRecord rs → 0 < length rs
    → size_of_batch rs ≤ 2147483647 → head.Fits h → HasSpelling (written h rs)
batch_fits h rs are some small fits =
    let room : 9 + length (covered h rs) < 2 ^ 31 = omega (arith, length-covered h rs, size_of_batch-is rs) in
    (batch_spelled h rs _ room (fields_fit h rs are some small fits) (crc_below (covered h rs)) refl).is_batch
