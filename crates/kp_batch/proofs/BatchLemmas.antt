-- What is read as a batch is spelled so, and what is spelled so is read.
use Rattle.std.proofs.Common.{◌≡◌, ℕ, ◌+◌, ◌<◌, true, false, cond, not, eqb, List, [], ◌++◌, length, ℤ, pos, negsuc, Result, Ok, Err, refl, sym, ap, subst, ◌∙◌, append_assoc, arith}
use Rattle.std.specs.Prelude.{nat_abs, ◌+ℤ◌, ◌-ℤ◌, int_le, IfOk, MatchResult}
use Rattle.std.specs.Int.{w8, w32}
use Rattle.std.specs.List.{flat_map, AllByRecursion}
use Rattle.std.specs.Ordering.{int_eq}
use Rattle.std.proofs.lemmas.Int.{ints}
use Rattle.std.proofs.lemmas.Bool.{eqb-true, and_parts, not-false}
use Rattle.std.proofs.lemmas.Bool.Decides.{Decides-int_eq, Decides-eqb}
use Rattle.std.proofs.lemmas.List.{length-append, length-map, append-nil, nil_from_length}
use Rattle.kp_wire.specs.declared.fault.WireFault.TheVariants.{BadLength}
use Rattle.kp_wire.specs.Reading.{Answers}
use Rattle.kp_wire.specs.Codec.{read_many}
use Rattle.kp_wire.specs.Checksum.{crc}
use Rattle.kp_wire.proofs.ReadLemmas.{IsBytes, bind_ok, ok_is, no_fault, let_through, refuse_ok, or_else_ok}
use Rattle.kp_wire.proofs.FieldLemmas.{int16_exact, int32_exact, int64_exact}
use Rattle.kp_wire.proofs.CodecLemmas.{IsExact, pair_exact, made_exact, int_exact, number_exact, many_takes, many_again, one_spelling as codec_spelling, wide8, wide32}
use Rattle.kp_batch.specs.declared.fault.BatchFault.{BatchFault}
use Rattle.kp_batch.specs.declared.fault.BatchFault.TheVariants.{Short, Length, Magic, Checksum, Attributes, Count, BadRecord, Deltas, Timestamps, OutOfMemory}
use Rattle.kp_batch.specs.declared.batch.Batch.{Batch}
use Rattle.kp_batch.specs.declared.batch.BatchHead.{BatchHead}
use Rattle.kp_batch.specs.declared.record.Record.{Record}
use Rattle.kp_batch.specs.declared.relative.RelativeRecord.{RelativeRecord}
use Rattle.kp_batch.specs.declared.summary.Front.{Front}
use Rattle.kp_batch.specs.declared.summary.Summary.{Summary}
use Rattle.kp_batch.specs.Record.{relative_record}
use Rattle.kp_batch.specs.Spelling.{front, head, summary, base_timestamp, max_timestamp, relatives_from, relatives, summary_of, covered, front_of, spelling, HasSpelling, Spells}
use Rattle.kp_batch.specs.Reading.{is_short, is_misfit, is_counted, Opened, opened_of, opened, all_records, in_places, are_moments, begins_at_base, absolute, records_of, is_timed, batch_at, Refuses}
use Rattle.kp_batch.proofs.RecordLemmas.{relative_record_exact}
use Rattle.kp_batch.proofs.RelativeLemmas.{HasMoment, length-relatives_from, in_places-relatives_from, are_moments-relatives_from, records_of-relatives_from, begins_at_base-relatives, have_moments, relatives_from-records_of, base_timestamp-records_of}

-- ---- the fields before the records

front_exact : IsExact 0 front
unfolding front
front_exact = made_exact 0 _ _ _ (λ _. refl) (λ _. refl) (pair_exact 0 _ _ int64_exact (pair_exact 0 _ _ int32_exact (pair_exact 0 _ _ int32_exact (pair_exact 0 _ _ (int_exact w8 wide8) (number_exact w32 wide32)))))

head_exact : IsExact 0 head
unfolding head
head_exact = made_exact 0 _ _ _ (λ _. refl) (λ _. refl) (pair_exact 0 _ _ int64_exact (pair_exact 0 _ _ int16_exact int32_exact))

summary_exact : IsExact 0 summary
unfolding summary
summary_exact = made_exact 0 _ _ _ (λ _. refl) (λ _. refl) (pair_exact 0 _ _ int16_exact (pair_exact 0 _ _ int32_exact (pair_exact 0 _ _ int64_exact (pair_exact 0 _ _ int64_exact (pair_exact 0 _ _ head_exact int32_exact)))))

pub length-front : (f : Front) → length (front.spell f) ≡ 21
unfolding front
length-front f = refl

pub length-before : (f : Front) (rest : List ℕ) → length (front.spell f ++ rest) ≡ 21 + length rest
length-before f rest = length-append (front.spell f) rest ∙ ap (λ (n : ℕ). n + length rest) (length-front f)

pub length-summary : (s : Summary) → length (summary.spell s) ≡ 40
unfolding summary head
length-summary s = refl

-- ---- rows that let a batch through

-- what the rows before the records let through
record IsOpened (bytes : List ℕ) (o : Opened) : Type 0 where
  rest : List ℕ
  front_read : front.read bytes ≡ Ok (o.front, rest)
  summary_read : summary.read rest ≡ Ok (o.summary, o.records)
  short : is_short o.front (length bytes) ≡ false
  misfit : is_misfit o.front (length bytes) ≡ false
  magic : not (int_eq o.front.magic (pos 2)) ≡ false
  checksum : not (eqb (crc rest) o.front.checksum) ≡ false
  attributes : not (int_eq o.summary.attributes (pos 0)) ≡ false
  counted : not (is_counted o.summary) ≡ false

is_opened : (bytes : List ℕ) (o : Opened) → opened bytes ≡ Ok o → IsOpened bytes o
unfolding opened
is_opened bytes o e =
    let f = or_else_ok (λ _. Short) (front.read bytes) _ o e in
    let s = or_else_ok (λ _. Short) (summary.read f.0.1) _ o f.2 in
    let a = refuse_ok (is_short f.0.0 (length bytes)) Short _ o s.2 in
    let b = refuse_ok (is_misfit f.0.0 (length bytes)) Length _ o a.1 in
    let c = refuse_ok (not (int_eq f.0.0.magic (pos 2))) Magic _ o b.1 in
    let d = refuse_ok (not (eqb (crc f.0.1) f.0.0.checksum)) Checksum _ o c.1 in
    let g = refuse_ok (not (int_eq s.0.0.attributes (pos 0))) Attributes _ o d.1 in
    let h = refuse_ok (not (is_counted s.0.0)) Count _ o g.1 in
    subst (IsOpened bytes) (ok_is (opened_of f.0.0 s.0.0 s.0.1) o h.1)
    (record { rest = f.0.1; front_read = f.1; summary_read = s.1; short = a.0; misfit = b.0; magic = c.0; checksum = d.0; attributes = g.0; counted = h.0 })

opened_again : (bytes : List ℕ) (o : Opened) → IsOpened bytes o → opened bytes ≡ Ok o
unfolding opened
opened_again bytes o p = rw (p.front_read, p.summary_read, p.short, p.misfit, p.magic, p.checksum, p.attributes, p.counted) refl

-- ---- rows by what they say

-- the length is that of the input
fits_length : (f : Front) (n : ℕ) → is_short f n ≡ false → is_misfit f n ≡ false → (pos n ≡ pos 12 +ℤ f.batch_length)
unfolding is_short is_misfit
fits_length f n short misfit = grind (arith, ints)

is_sized : (f : Front) (m : ℕ) → f.batch_length ≡ pos (49 + m) → (is_short f (61 + m) ≡ false) × (is_misfit f (61 + m) ≡ false)
unfolding is_short is_misfit
is_sized f m e = rw e (grind (arith, ints), grind (arith, ints))

counts : (s : Summary) → not (is_counted s) ≡ false → (s.count ≡ pos (nat_abs s.count)) × (0 < nat_abs s.count) × (s.last_offset_delta ≡ s.count -ℤ pos 1)
unfolding is_counted
counts s e = by_count s.count (and_parts _ _ (not-false _ e))
  where
    by_count : (n : ℤ) → (int_le (pos 1) n ≡ true) × (int_eq s.last_offset_delta (n -ℤ pos 1) ≡ true) → (n ≡ pos (nat_abs n)) × (0 < nat_abs n) × (s.last_offset_delta ≡ n -ℤ pos 1)
    by_count (pos n) h = (refl, grind (arith, ints), (Decides-int_eq _ _).0 h.1)
    by_count (negsuc n) h = absurd (let e = h.0 in grind (arith, ints))

is_counted_of : (h : BatchHead) (rs : List Record) → 0 < length rs → is_counted (summary_of h rs) ≡ true
unfolding is_counted
is_counted_of h rs some = rw ((Decides-int_eq (pos (length rs) -ℤ pos 1) (pos (length rs) -ℤ pos 1)).1 refl) (grind (arith, ints))

-- ---- the records

record AreRecords (n : ℕ) (bytes : List ℕ) (rs : List RelativeRecord) : Type 0 where
  count : length rs ≡ n
  spelled : bytes ≡ flat_map relative_record.spell rs
  fits : AllByRecursion relative_record.Fits rs

are_records : (n : ℕ) (bytes : List ℕ) (rs : List RelativeRecord) → IsBytes bytes → all_records n bytes ≡ Ok rs → AreRecords n bytes rs
unfolding all_records
are_records n bytes rs fits e =
    let a = bind_ok (read_many relative_record.read n bytes) (λ x. cond (eqb (length x.1) 0) (Ok x.0) (Err BadLength)) rs e in
    let u = let_through (eqb (length a.0.1) 0) BadLength a.0.0 rs a.2 in
    let t = many_takes 0 relative_record n bytes a.0 relative_record_exact fits a.1 in
    let none : a.0.1 ≡ [] = nil_from_length a.0.1 (eqb-true _ _ u.0) in
    subst (AreRecords n bytes) u.1
    (record { count = t.0; spelled = t.1.parts ∙ ap (λ (x : List ℕ). flat_map relative_record.spell a.0.0 ++ x) none ∙ append-nil (flat_map relative_record.spell a.0.0); fits = t.2 })

records_again : (rs : List RelativeRecord) → AllByRecursion relative_record.Fits rs → all_records (length rs) (flat_map relative_record.spell rs) ≡ Ok rs
unfolding all_records
records_again rs fits =
    let e : read_many relative_record.read (length rs) (flat_map relative_record.spell rs) ≡ Ok (rs, []) =
    ap (read_many relative_record.read (length rs)) (sym (append-nil (flat_map relative_record.spell rs))) ∙ many_again 0 relative_record rs [] relative_record_exact fits (omega arith) in
    rw e refl

-- ---- values from their fields

abbrev summary_with : ℤ → ℤ → ℤ → ℤ → BatchHead → ℤ → Summary
summary_with a l b m h n = record { attributes = a; last_offset_delta = l; base_timestamp = b; max_timestamp = m; head = h; count = n }

summary_is : (s : Summary) (a l b m n : ℤ) → s.attributes ≡ a → s.last_offset_delta ≡ l → s.base_timestamp ≡ b → s.max_timestamp ≡ m → s.count ≡ n → s ≡ summary_with a l b m s.head n
summary_is s a l b m n e1 e2 e3 e4 e5 =
    let same : summary_with s.attributes s.last_offset_delta s.base_timestamp s.max_timestamp s.head s.count ≡ summary_with a l b m s.head n = rw (e1, e2, e3, e4, e5) refl in same

abbrev pub front_with : ℤ → ℤ → ℤ → ℤ → ℕ → Front
front_with o n l m c = record { base_offset = o; batch_length = n; leader_epoch = l; magic = m; checksum = c }

front_is : (f : Front) (n m : ℤ) (c : ℕ) → f.batch_length ≡ n → f.magic ≡ m → f.checksum ≡ c → f ≡ front_with f.base_offset n f.leader_epoch m c
front_is f n m c e1 e2 e3 =
    let same : front_with f.base_offset f.batch_length f.leader_epoch f.magic f.checksum ≡ front_with f.base_offset n f.leader_epoch m c = rw (e1, e2, e3) refl in same

-- the timestamps are as the batch names them
timed : (s : Summary) (rs : List RelativeRecord) → is_timed s rs ≡ true → (begins_at_base rs ≡ true) × (are_moments s.base_timestamp rs ≡ true) × (s.max_timestamp ≡ pos (max_timestamp (records_of s.base_timestamp rs)))
unfolding is_timed
timed s rs e = let a = and_parts _ _ e in let b = and_parts _ _ a.0 in (b.0, b.1, (Decides-int_eq _ _).0 a.1)

-- ---- a batch that was read

abbrev batch_of : Opened → List RelativeRecord → Batch
batch_of o rs = record { base_offset = o.front.base_offset; leader_epoch = o.front.leader_epoch; head = o.summary.head; records = records_of o.summary.base_timestamp rs }

record IsReadAs (bytes : List ℕ) (o : Opened) (rs : List RelativeRecord) : Type 0 where
  opens : IsOpened bytes o
  records : all_records (nat_abs o.summary.count) o.records ≡ Ok rs
  places : in_places 0 rs ≡ true
  times : is_timed o.summary rs ≡ true

is_read_as : (bytes : List ℕ) (b : Batch) → batch_at bytes ≡ Ok b → (o : Opened) × (rs : List RelativeRecord) × IsReadAs bytes o rs × (batch_of o rs ≡ b)
unfolding batch_at
is_read_as bytes b e =
    let o = bind_ok (opened bytes) _ b e in
    let rs = or_else_ok BadRecord (all_records (nat_abs o.0.summary.count) o.0.records) _ b o.2 in
    let p = refuse_ok (not (in_places 0 rs.0)) Deltas _ b rs.2 in
    let t = refuse_ok (not (is_timed o.0.summary rs.0)) Timestamps _ b p.1 in
    (o.0, rs.0, record { opens = is_opened bytes o.0 o.1; records = rs.1; places = not-false _ p.0; times = not-false _ t.0 }, ok_is (batch_of o.0 rs.0) b t.1)

-- what stands before the records, and the records, as they are spelled
record IsSpelledAs (bytes : List ℕ) (o : Opened) (rs : List RelativeRecord) (records : List Record) : Type 0 where
  relative : relatives records ≡ rs
  summarized : o.summary ≡ summary_of o.summary.head records
  covers : covered o.summary.head records ≡ summary.spell o.summary ++ o.records
  fronts : o.front ≡ front_with o.front.base_offset (pos (9 + length (covered o.summary.head records))) o.front.leader_epoch (pos 2) (crc (covered o.summary.head records))
  whole : bytes ≡ front.spell o.front ++ covered o.summary.head records
  front_fits : front.Fits o.front
  summary_fits : summary.Fits o.summary
  records_fit : AllByRecursion relative_record.Fits rs
  some : 0 < length records
  moments : AllByRecursion HasMoment records

is_spelled_as : (bytes : List ℕ) (o : Opened) (rs : List RelativeRecord) → IsBytes bytes → IsReadAs bytes o rs → IsSpelledAs bytes o rs (records_of o.summary.base_timestamp rs)
unfolding covered
is_spelled_as bytes o rs fits p =
    let base = o.summary.base_timestamp in
    let recs = records_of base rs in
    let B = base_timestamp recs in
    let f = front_exact.takes bytes (o.front, p.opens.rest) fits p.opens.front_read in
    let s = summary_exact.takes p.opens.rest (o.summary, o.records) f.0.rest_fits p.opens.summary_read in
    let r = are_records (nat_abs o.summary.count) o.records rs s.0.rest_fits p.records in
    let c = counts o.summary p.opens.counted in
    let t = timed o.summary rs p.times in
    let some : 0 < length rs = omega (arith, r.count, c.1) in
    let base-is : base ≡ pos B = base_timestamp-records_of base rs some t.0 t.1 in
    let M : ℤ → Type 0 = λ z. are_moments z rs ≡ true in
    let R : ℤ → Type 0 = λ z. relatives_from B 0 (records_of z rs) ≡ rs in
    let rel : relatives recs ≡ rs = subst R (sym base-is) (relatives_from-records_of B 0 rs p.places (subst M base-is t.1)) in
    let same : length recs ≡ length rs = length-map rs (absolute base) in
    let count-is : o.summary.count ≡ pos (length recs) = c.0 ∙ ap pos (sym r.count ∙ sym same) in
    let last-is : o.summary.last_offset_delta ≡ pos (length recs) -ℤ pos 1 = c.2 ∙ ap (λ (z : ℤ). z -ℤ pos 1) count-is in
    let none : o.summary.attributes ≡ pos 0 = (Decides-int_eq _ _).0 (not-false _ p.opens.attributes) in
    let sum : o.summary ≡ summary_of o.summary.head recs = summary_is o.summary _ _ _ _ _ none last-is base-is t.2 count-is in
    let cov : covered o.summary.head recs ≡ summary.spell o.summary ++ o.records = ap (λ (x : Summary). summary.spell x ++ flat_map relative_record.spell (relatives recs)) (sym sum) ∙ ap (λ (x : List RelativeRecord). summary.spell o.summary ++ flat_map relative_record.spell x) rel ∙ ap (λ (x : List ℕ). summary.spell o.summary ++ x) (sym r.spelled) in
    let rest-is : p.opens.rest ≡ covered o.summary.head recs = s.0.parts ∙ sym cov in
    let size : length bytes ≡ 21 + length p.opens.rest = ap length f.0.parts ∙ length-before o.front p.opens.rest in
    let len : pos (length bytes) ≡ pos 12 +ℤ o.front.batch_length = fits_length o.front (length bytes) p.opens.short p.opens.misfit in
    let batch-length : o.front.batch_length ≡ pos (9 + length (covered o.summary.head recs)) = length_of o.front.batch_length (length bytes) (length (covered o.summary.head recs)) len (size ∙ ap (λ (x : List ℕ). 21 + length x) rest-is) in
    let magic : o.front.magic ≡ pos 2 = (Decides-int_eq _ _).0 (not-false _ p.opens.magic) in
    let sumcheck : o.front.checksum ≡ crc (covered o.summary.head recs) = sym (eqb-true _ _ (not-false _ p.opens.checksum)) ∙ ap crc rest-is in
    record {
      relative = rel;
      summarized = sum;
      covers = cov;
      fronts = front_is o.front _ _ _ batch-length magic sumcheck;
      whole = f.0.parts ∙ ap (λ (x : List ℕ). front.spell o.front ++ x) rest-is;
      front_fits = f.1;
      summary_fits = s.1;
      records_fit = r.fits;
      some = omega (arith, same, some);
      moments = have_moments base rs t.1;
    }
  where
    length_of : (z : ℤ) (n m : ℕ) → pos n ≡ pos 12 +ℤ z → n ≡ 21 + m → z ≡ pos (9 + m)
    length_of z n m e h = omega (arith, ints)

spells_it : (bytes : List ℕ) (o : Opened) (rs : List RelativeRecord) → IsSpelledAs bytes o rs (records_of o.summary.base_timestamp rs) → Spells bytes (batch_of o rs)
unfolding front_of spelling
spells_it bytes o rs p = record {
  is_batch = record {
    front = subst front.Fits p.fronts p.front_fits;
    fields = record {
      some = p.some;
      moments = p.moments;
      summary = subst summary.Fits p.summarized p.summary_fits;
      records = subst (AllByRecursion relative_record.Fits) (sym p.relative) p.records_fit;
    };
  };
  is_spelling = p.whole ∙ ap (λ (f : Front). front.spell f ++ covered o.summary.head (records_of o.summary.base_timestamp rs)) p.fronts;
}

pub batch_takes : (bytes : List ℕ) (b : Batch) → IsBytes bytes → batch_at bytes ≡ Ok b → Spells bytes b
batch_takes bytes b fits e =
    let r = is_read_as bytes b e in
    subst (Spells bytes) r.3 (spells_it bytes r.0 r.1 (is_spelled_as bytes r.0 r.1 fits r.2))

-- ---- a spelling is read

timed_again : (h : BatchHead) (rs : List Record) → AllByRecursion HasMoment rs → is_timed (summary_of h rs) (relatives rs) ≡ true
unfolding is_timed
timed_again h rs fits =
    rw (begins_at_base-relatives rs, are_moments-relatives_from (base_timestamp rs) 0 rs fits, records_of-relatives_from (base_timestamp rs) 0 rs)
    ((Decides-int_eq (pos (max_timestamp rs)) (pos (max_timestamp rs))).1 refl)

abbrev opened_as : Batch → Opened
opened_as b = opened_of (front_of b) (summary_of b.head b.records) (flat_map relative_record.spell (relatives b.records))

pub length-covered : (h : BatchHead) (rs : List Record) → length (covered h rs) ≡ 40 + length (flat_map relative_record.spell (relatives rs))
unfolding covered
length-covered h rs = length-append (summary.spell (summary_of h rs)) (flat_map relative_record.spell (relatives rs)) ∙ ap (λ (n : ℕ). n + length (flat_map relative_record.spell (relatives rs))) (length-summary (summary_of h rs))

pub length-spelling : (b : Batch) → length (spelling b) ≡ 61 + length (flat_map relative_record.spell (relatives b.records))
unfolding spelling
length-spelling b =
    length-before (front_of b) (covered b.head b.records) ∙ omega (arith, length-covered b.head b.records)

opens_again : (b : Batch) → HasSpelling b → IsOpened (spelling b) (opened_as b)
unfolding spelling front_of covered
opens_again b p =
    let records = flat_map relative_record.spell (relatives b.records) in
    let cov = covered b.head b.records in
    let len : (front_of b).batch_length ≡ pos (49 + length records) = ap pos (omega (arith, length-covered b.head b.records)) in
    let sized = is_sized (front_of b) (length records) len in
    record {
      rest = cov;
      front_read = front_exact.again (front_of b) cov p.front (omega arith);
      summary_read = summary_exact.again (summary_of b.head b.records) records p.fields.summary (omega arith);
      short = rw (length-spelling b) sized.0;
      misfit = rw (length-spelling b) sized.1;
      magic = refl;
      checksum = ap not ((Decides-eqb (crc cov) (crc cov)).1 refl);
      attributes = refl;
      counted = ap not (is_counted_of b.head b.records p.fields.some);
    }

front_offset : (b : Batch) → (front_of b).base_offset ≡ b.base_offset
unfolding front_of
front_offset b = refl

front_leader : (b : Batch) → (front_of b).leader_epoch ≡ b.leader_epoch
unfolding front_of
front_leader b = refl

pub batch_again : (bytes : List ℕ) (b : Batch) → Spells bytes b → batch_at bytes ≡ Ok b
unfolding batch_at
batch_again bytes b p =
    let h = p.is_batch in
    let base = base_timestamp b.records in
    let opens = opened_again (spelling b) (opened_as b) (opens_again b h) in
    let records : all_records (length b.records) (flat_map relative_record.spell (relatives b.records)) ≡ Ok (relatives b.records) =
    ap (λ (n : ℕ). all_records n (flat_map relative_record.spell (relatives b.records))) (sym (length-relatives_from base 0 b.records)) ∙ records_again (relatives b.records) h.fields.records in
    ap batch_at p.is_spelling ∙ rw (opens, records, in_places-relatives_from base 0 b.records, timed_again b.head b.records h.fields.moments, records_of-relatives_from base 0 b.records, front_offset b, front_leader b) refl

-- ---- what read_batch gives

pub found : (bytes : List ℕ) (r : Result Batch BatchFault) → IsBytes bytes → Answers (Refuses bytes) (λ b. b) r (batch_at bytes) → IfOk r (Spells bytes)
found bytes (Ok b) fits e = batch_takes bytes b fits e
found bytes (Err fault) fits e = tt

only_memory : (bytes : List ℕ) (b : Batch) (fault : BatchFault) → batch_at bytes ≡ Ok b → Refuses bytes fault (batch_at bytes) → fault ≡ OutOfMemory
only_memory bytes b OutOfMemory e r = refl
only_memory bytes b Short e r = absurd (no_fault Short b (sym r ∙ e))
only_memory bytes b Length e r = absurd (no_fault Length b (sym r ∙ e))
only_memory bytes b Magic e r = absurd (no_fault Magic b (sym r ∙ e))
only_memory bytes b Checksum e r = absurd (no_fault Checksum b (sym r ∙ e))
only_memory bytes b Attributes e r = absurd (no_fault Attributes b (sym r ∙ e))
only_memory bytes b Count e r = absurd (no_fault Count b (sym r ∙ e))
only_memory bytes b (BadRecord w) e r = absurd (no_fault (BadRecord w) b (sym r ∙ e))
only_memory bytes b Deltas e r = absurd (no_fault Deltas b (sym r ∙ e))
only_memory bytes b Timestamps e r = absurd (no_fault Timestamps b (sym r ∙ e))

pub only : (bytes : List ℕ) (r : Result Batch BatchFault) (b : Batch) → Answers (Refuses bytes) (λ b. b) r (batch_at bytes) → Spells bytes b → MatchResult r (λ x. x ≡ b) (λ fault. fault ≡ OutOfMemory)
only bytes (Ok x) b e p = ok_is x b (sym e ∙ batch_again bytes b p)
only bytes (Err fault) b e p = only_memory bytes b fault (batch_again bytes b p) e

-- ---- one spelling

-- no spelling begins another, and each is that of one batch
pub one_spelling : (a b : Batch) (x y rest : List ℕ) → Spells x a → Spells y b → y ≡ x ++ rest → (a ≡ b) × (rest ≡ [])
unfolding spelling front_of
one_spelling a b x y rest p q e =
    let f = front_of a in
    let cov = covered a.head a.records in
    let whole : front.spell (front_of b) ++ covered b.head b.records ≡ front.spell f ++ (cov ++ rest) = sym q.is_spelling ∙ e ∙ ap (λ (z : List ℕ). z ++ rest) p.is_spelling ∙ append_assoc (front.spell f) cov rest in
    let same = codec_spelling front front_exact (front_of b) f (covered b.head b.records) (cov ++ rest) q.is_batch.front p.is_batch.front whole in
    let len : pos (9 + length (covered b.head b.records)) ≡ pos (9 + length cov) = ap (λ (g : Front). g.batch_length) same.0 in
    let longer : length (covered b.head b.records) ≡ length cov + length rest = ap length same.1 ∙ length-append cov rest in
    let none : rest ≡ [] = nil_from_length rest (omega (arith, ints)) in
    let equal : y ≡ x = e ∙ ap (λ (z : List ℕ). x ++ z) none ∙ append-nil x in
    (ok_is a b (sym (batch_again x a p) ∙ ap batch_at (sym equal) ∙ batch_again y b q), none)
