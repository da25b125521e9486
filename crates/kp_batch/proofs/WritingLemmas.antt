-- What was appended field by field.
use Rattle.std.proofs.Common.{◌≡◌, ℕ, ◌+◌, ◌-◌, ◌<◌, ◌≤◌, ◌^◌, max, List, [], ◌∷◌, ◌++◌, length, get_or, take, drop, ℤ, pos, negsuc, refl, sym, ap, subst, ◌∙◌, append_assoc, arith}
use Rattle.std.specs.Prelude.{FitsSigned, ◌-ℤ◌}
use Rattle.std.proofs.lemmas.Int.{ints}
use Rattle.std.specs.Int.{w8, w16, w32, w64, to_be_bytes}
use Rattle.kp_wire.specs.Checksum.{crc}
use Rattle.kp_wire.proofs.ReadLemmas.{then_put}
use Rattle.kp_wire.proofs.ListLemmas.{drop_here}
use Rattle.kp_wire.specs.Codec.{int, number}
use Rattle.kp_batch.specs.declared.batch.BatchHead.{BatchHead}
use Rattle.kp_batch.specs.declared.summary.Front.{Front}
use Rattle.kp_batch.specs.declared.summary.Summary.{Summary}
use Rattle.std.specs.List.{flat_map, AllByRecursion}
use Rattle.std.proofs.lemmas.List.Concat.{flat_map-cons}
use Rattle.kp_wire.specs.Varint.{varint, varlong}
use Rattle.kp_batch.specs.declared.relative.RelativeRecord.{RelativeRecord}
use Rattle.kp_batch.specs.Record.{attributes, bytes_or_null, headers, fields, fields_size, relative_record}
use Rattle.kp_batch.specs.declared.record.Record.{Record}
use Rattle.kp_batch.specs.Spelling.{front, head, summary, summary_of, covered, front_of, spelling, HasFields, Spells, written, relative, relatives_from, base_timestamp, max_timestamp}
use Rattle.kp_batch.proofs.RelativeLemmas.{HasMoment, relatives_from-here}

pub fields_spelled : (r : RelativeRecord) (o0 o1 o2 o3 o4 o5 o6 : List ℕ) → o1 ≡ o0 ++ 0 ∷ [] → o2 ≡ o1 ++ varlong.spell r.timestamp_delta → o3 ≡ o2 ++ varint.spell r.offset_delta
    → o4 ≡ o3 ++ (bytes_or_null 0).spell r.key → o5 ≡ o4 ++ (bytes_or_null 0).spell r.value → o6 ≡ o5 ++ (headers 0).spell r.headers → o6 ≡ o0 ++ (fields 0).spell r
unfolding fields attributes
fields_spelled r o0 o1 o2 o3 o4 o5 o6 e1 e2 e3 e4 e5 e6 = rw (e6, e5, e4, e3, e2, e1) (simp append_assoc)

pub record_spelled : (r : RelativeRecord) (o0 o1 o2 : List ℕ) → o1 ≡ o0 ++ varint.spell (pos (fields_size r)) → o2 ≡ o1 ++ (fields 0).spell r → o2 ≡ o0 ++ relative_record.spell r
unfolding relative_record
record_spelled r o0 o1 o2 e1 e2 = then_put o0 o1 o2 (varint.spell (pos (fields_size r))) ((fields 0).spell r) e1 e2

pub record_fits : (r : RelativeRecord) → fields_size r ≤ 2147483647 → (fields 0).Fits r → relative_record.Fits r
unfolding relative_record
record_fits r small fits = let len : FitsSigned w32 (pos (fields_size r)) = record { sfits = omega arith } in (len, (refl, fits))

-- ---- the records one by one

pub record_more : (base k : ℕ) (rs : List Record) (r : Record) (out more whole : List ℕ) → k < length rs → r ≡ get_or rs k r → more ≡ out ++ relative_record.spell (relative base k r)
    → out ++ flat_map relative_record.spell (relatives_from base k (drop k rs)) ≡ whole → more ++ flat_map relative_record.spell (relatives_from base (k + 1) (drop (k + 1) rs)) ≡ whole
record_more base k rs r out more whole lt e here so_far =
    let rest = relatives_from base (k + 1) (drop (k + 1) rs) in
    let one : flat_map relative_record.spell (relatives_from base k (drop k rs)) ≡ relative_record.spell (relative base k r) ++ flat_map relative_record.spell rest =
    ap (flat_map relative_record.spell) (relatives_from-here base k rs r lt e) ∙ flat_map-cons relative_record.spell (relative base k r) rest in
    rw here (append_assoc out (relative_record.spell (relative base k r)) (flat_map relative_record.spell rest) ∙ sym (ap (λ (x : List ℕ). out ++ x) one) ∙ so_far)

pub fits_more : (base k : ℕ) (rs : List Record) (r : Record) (P : Type 0) → k < length rs → r ≡ get_or rs k r → relative_record.Fits (relative base k r)
    → (AllByRecursion relative_record.Fits (relatives_from base k (drop k rs)) → P) → AllByRecursion relative_record.Fits (relatives_from base (k + 1) (drop (k + 1) rs)) → P
fits_more base k rs r P lt e here so_far rest = so_far (subst (AllByRecursion relative_record.Fits) (sym (relatives_from-here base k rs r lt e)) (here, rest))

pub moments_up_to : (rs : List Record) → max_timestamp rs < 2 ^ 63 → AllByRecursion HasMoment rs
moments_up_to [] late = tt
moments_up_to (r ∷ rs) late = (omega (arith, late), moments_up_to rs (omega (arith, late)))

pub latest_further : (rs : List Record) (k : ℕ) (r : Record) (latest next whole : ℕ) → k < length rs → r ≡ get_or rs k r → next ≡ max latest r.timestamp → max latest (max_timestamp (drop k rs)) ≡ whole → max next (max_timestamp (drop (k + 1) rs)) ≡ whole
latest_further rs k r latest next whole lt e is so_far =
    let one : max_timestamp (drop k rs) ≡ max r.timestamp (max_timestamp (drop (k + 1) rs)) = ap max_timestamp (drop_here rs k r lt e) in
    omega (arith, one, so_far, is)

-- ---- the fields before the records

pub head_spelled : (h : BatchHead) (o0 o1 o2 o3 : List ℕ) → o1 ≡ o0 ++ (int w64).spell h.producer_id → o2 ≡ o1 ++ (int w16).spell h.epoch → o3 ≡ o2 ++ (int w32).spell h.base_sequence → o3 ≡ o0 ++ head.spell h
unfolding head
head_spelled h o0 o1 o2 o3 e1 e2 e3 = rw (e3, e2, e1) (simp append_assoc)

pub summary_spelled : (s : Summary) (o0 o1 o2 o3 o4 o5 o6 : List ℕ) → o1 ≡ o0 ++ (int w16).spell s.attributes → o2 ≡ o1 ++ (int w32).spell s.last_offset_delta → o3 ≡ o2 ++ (int w64).spell s.base_timestamp
    → o4 ≡ o3 ++ (int w64).spell s.max_timestamp → o5 ≡ o4 ++ head.spell s.head → o6 ≡ o5 ++ (int w32).spell s.count → o6 ≡ o0 ++ summary.spell s
unfolding summary
summary_spelled s o0 o1 o2 o3 o4 o5 o6 e1 e2 e3 e4 e5 e6 = rw (e6, e5, e4, e3, e2, e1) (simp append_assoc)

pub summary_fits : (h : BatchHead) (rs : List Record) → FitsSigned w64 h.producer_id → FitsSigned w16 h.epoch → FitsSigned w32 h.base_sequence → 0 < length rs → length rs ≤ 2147483647 → base_timestamp rs < 2 ^ 63 → max_timestamp rs < 2 ^ 63
    → summary.Fits (summary_of h rs)
unfolding summary head
summary_fits h rs id epoch sequence some few first latest =
    (record { sfits = omega arith }, (last, (record { sfits = first }, (record { sfits = latest }, ((id, (epoch, sequence)), record { sfits = omega arith })))))
  where
    last : FitsSigned w32 (pos (length rs) -ℤ pos 1)
    last = (let e : pos (length rs) -ℤ pos 1 ≡ pos (length rs - 1) = omega (arith, ints) in rw e (record { sfits = omega arith }))

pub covered_spelled : (h : BatchHead) (rs : List Record) (o0 o1 o2 : List ℕ) → o1 ≡ o0 ++ summary.spell (summary_of h rs) → o2 ≡ o1 ++ flat_map relative_record.spell (relatives_from (base_timestamp rs) 0 rs) → o2 ≡ o0 ++ covered h rs
unfolding covered
covered_spelled h rs o0 o1 o2 e1 e2 = then_put o0 o1 o2 (summary.spell (summary_of h rs)) (flat_map relative_record.spell (relatives_from (base_timestamp rs) 0 rs)) e1 e2

-- ---- the batch

-- the length in its place
pub length_put : (f : Front) (n : ℤ) (rest bytes : List ℕ) → bytes ≡ front.spell f ++ rest → take 8 bytes ++ (int w32).spell n ++ drop 12 bytes ≡ front.spell (record f { batch_length = n }) ++ rest
unfolding front
length_put f n rest bytes e = rw e refl

-- the checksum in its place
pub checksum_put : (f : Front) (c : ℕ) (rest bytes : List ℕ) → bytes ≡ front.spell f ++ rest → take 17 bytes ++ to_be_bytes w32 c ++ drop 21 bytes ≡ front.spell (record f { checksum = c }) ++ rest
unfolding front
checksum_put f c rest bytes e = rw e refl

pub behind_front : (f : Front) (rest : List ℕ) → drop 21 (front.spell f ++ rest) ≡ rest
unfolding front
behind_front f rest = refl

abbrev pub sealed : Front → List ℕ → Front
sealed f rest = record f { batch_length = pos (9 + length rest); checksum = crc rest }

-- what a writer puts before the length and the checksum are known
unfoldable pub unsealed : Front
unsealed = record { base_offset = pos 0; batch_length = pos 0; leader_epoch = negsuc 0; magic = pos 2; checksum = 0 }

pub unsealed_spelled : front.spell unsealed ≡ 0 ∷ 0 ∷ 0 ∷ 0 ∷ 0 ∷ 0 ∷ 0 ∷ 0 ∷ 0 ∷ 0 ∷ 0 ∷ 0 ∷ 255 ∷ 255 ∷ 255 ∷ 255 ∷ 2 ∷ 0 ∷ 0 ∷ 0 ∷ 0 ∷ []
unfolding front unsealed
unsealed_spelled = refl

front_fits : (h : BatchHead) (rs : List Record) → 9 + length (covered h rs) < 2 ^ 31 → crc (covered h rs) < 2 ^ 32 → front.Fits (front_of (written h rs))
unfolding front front_of
front_fits h rs small sum = (record { sfits = omega arith }, (record { sfits = small }, (record { sfits = omega arith }, (record { sfits = omega arith }, sum))))

sealed_is_of : (h : BatchHead) (rs : List Record) → sealed unsealed (covered h rs) ≡ front_of (written h rs)
unfolding front_of unsealed
sealed_is_of h rs = refl

pub batch_spelled : (h : BatchHead) (rs : List Record) (bytes : List ℕ) → 9 + length (covered h rs) < 2 ^ 31 → HasFields h rs → crc (covered h rs) < 2 ^ 32
    → bytes ≡ front.spell (sealed unsealed (covered h rs)) ++ covered h rs → Spells bytes (written h rs)
unfolding spelling
batch_spelled h rs bytes small fits sum is = record {
  is_batch = record { front = front_fits h rs small sum; fields = fits };
  is_spelling = is ∙ ap (λ (f : Front). front.spell f ++ covered h rs) (sealed_is_of h rs);
}
