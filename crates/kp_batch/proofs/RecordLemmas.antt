-- The fields of a record are read as they are written.
use Rattle.std.proofs.Common.{◌≡◌, ℕ, zero, suc, ◌+◌, ◌-◌, ◌≤◌, true, cond, eqb, List, [], ◌∷◌, ◌++◌, length, ℤ, Ok, Err, refl, ap, subst, ◌∙◌, arith}
use Rattle.std.specs.Prelude.{FitsSigned}
use Rattle.std.specs.Int.{w32}
use Rattle.std.proofs.lemmas.List.{length-append}
use Rattle.std.proofs.lemmas.Bool.{eqb-true}
use Rattle.std.proofs.lemmas.Bool.Decides.{Decides-eqb}
use Rattle.kp_wire.specs.declared.fault.WireFault.TheVariants.{BadLength}
use Rattle.kp_wire.specs.Codec.{within, plain, utf8}
use Rattle.kp_wire.specs.Varint.{varint, varlong}
use Rattle.kp_wire.proofs.ReadLemmas.{IsBytes, IsBytes-rest, Takes, bind_ok, ok_is, let_through}
use Rattle.kp_wire.proofs.CodecLemmas.{IsExact, pair_exact, made_exact, within_exact, sized_exact, nullable_sized_exact, array_exact, plain_exact, utf8_exact}
use Rattle.kp_wire.proofs.VarintLemmas.{varint_exact, varlong_exact}
use Rattle.kp_batch.specs.declared.relative.RelativeRecord.{RelativeRecord}
use Rattle.kp_batch.specs.Record.{attributes, read_zero, length_field, bytes_or_null, text, header, headers, fields, fields_size, read_fields, sized_fields, relative_record}

attributes_takes : (bytes : List ℕ) (x : Unit {0} × List ℕ) → IsBytes bytes → read_zero bytes ≡ Ok x → Takes bytes (0 ∷ []) x.1 × Unit {0}
unfolding read_zero
attributes_takes [] x fits e = absurd cc
attributes_takes (zero ∷ bytes) x fits e =
    let got : Unit {0} × List ℕ = (tt, bytes) in
    subst (λ (y : Unit {0} × List ℕ). Takes (0 ∷ bytes) (0 ∷ []) y.1 × Unit {0}) (ok_is got x e) (record { parts = refl; rest_fits = IsBytes-rest 0 bytes fits }, tt)
attributes_takes (suc b ∷ bytes) x fits e = absurd cc

attributes_exact : IsExact 0 attributes
unfolding attributes read_zero
attributes_exact = record { takes = attributes_takes; again = λ a rest fits behind. refl }

length_exact : (after : ℕ) → IsExact after (length_field after)
unfolding length_field
length_exact after = within_exact after varint varint_exact

pub length_fits : (after : ℕ) (bytes : List ℕ) (n : ℤ) (rest : List ℕ) → IsBytes bytes → (length_field after).read bytes ≡ Ok (n, rest) → FitsSigned w32 n
unfolding length_field
length_fits after bytes n rest fits e = ((length_exact after).takes bytes (n, rest) fits e).1

bytes_or_null_exact : (after : ℕ) → IsExact after (bytes_or_null after)
unfolding bytes_or_null
bytes_or_null_exact after =
    nullable_sized_exact after (length_field after) length (λ n. within after (plain n)) (length_exact after) (λ n. within_exact after (plain n) (plain_exact n)) (record { is_size = λ n s fits. fits })

text_exact : (after : ℕ) → IsExact after (text after)
unfolding text
text_exact after =
    sized_exact after (length_field after) length (λ n. within after (utf8 n)) (length_exact after) (λ n. within_exact after (utf8 n) (utf8_exact n)) (record { is_size = λ n s fits. fits.0 })

header_exact : (after : ℕ) → IsExact after (header after)
unfolding header
header_exact after = made_exact after _ _ _ (λ _. refl) (λ _. refl) (pair_exact after _ _ (text_exact after) (bytes_or_null_exact after))

headers_exact : (after : ℕ) → IsExact after (headers after)
unfolding headers
headers_exact after = array_exact after (length_field after) (header after) (length_exact after) (header_exact after)

fields_exact : (after : ℕ) → IsExact after (fields after)
unfolding fields
fields_exact after =
    made_exact after _ _ _ (λ _. refl) (λ _. refl)
    (pair_exact after _ _ (within_exact after attributes attributes_exact)
    (pair_exact after _ _ (within_exact after varlong varlong_exact)
    (pair_exact after _ _ (within_exact after varint varint_exact)
    (pair_exact after _ _ (bytes_or_null_exact after)
    (pair_exact after _ _ (bytes_or_null_exact after) (headers_exact after))))))

-- what stands behind a record changes neither its spelling nor which records have one
spells_anywhere : (after : ℕ) (r : RelativeRecord) → (fields after).spell r ≡ (fields 0).spell r
unfolding fields headers header text bytes_or_null length_field
spells_anywhere after r = refl

fits_here : (after : ℕ) (r : RelativeRecord) → (fields after).Fits r → (fields 0).Fits r
unfolding fields headers header text bytes_or_null length_field
fits_here after r h = h

fits_there : (after : ℕ) (r : RelativeRecord) → (fields 0).Fits r → (fields after).Fits r
unfolding fields headers header text bytes_or_null length_field
fits_there after r h = h

sized_takes : (n : ℕ) (bytes : List ℕ) (x : RelativeRecord × List ℕ) → IsBytes bytes → read_fields n bytes ≡ Ok x → Takes bytes ((fields 0).spell x.0) x.1 × ((fields_size x.0 ≡ n) × (fields 0).Fits x.0)
unfolding read_fields
sized_takes n bytes x fits e =
    let after = length bytes - n in
    let a = bind_ok ((fields after).read bytes) (λ r. cond (eqb (length r.1 + n) (length bytes)) (Ok r) (Err BadLength)) x e in
    let u = let_through (eqb (length a.0.1 + n) (length bytes)) BadLength a.0 x a.2 in
    let t = (fields_exact after).takes bytes a.0 fits a.1 in
    let S : List ℕ → Type 0 = λ s. Takes bytes s a.0.1 in
    let spelled : Takes bytes ((fields 0).spell a.0.0) a.0.1 = subst S (spells_anywhere after a.0.0) t.0 in
    let whole : length bytes ≡ length ((fields 0).spell a.0.0) + length a.0.1 = ap length spelled.parts ∙ length-append ((fields 0).spell a.0.0) a.0.1 in
    let end : length a.0.1 + n ≡ length bytes = eqb-true _ _ u.0 in
    let size : fields_size a.0.0 ≡ n = omega arith in
    let P : RelativeRecord × List ℕ → Type 0 = λ y. Takes bytes ((fields 0).spell y.0) y.1 × ((fields_size y.0 ≡ n) × (fields 0).Fits y.0) in
    subst P u.1 (spelled, (size, fits_here after a.0.0 t.1))

sized_again : (n : ℕ) (r : RelativeRecord) (rest : List ℕ) → fields_size r ≡ n → (fields 0).Fits r → read_fields n ((fields 0).spell r ++ rest) ≡ Ok (r, rest)
unfolding read_fields
sized_again n r rest size fits =
    let bytes = (fields 0).spell r ++ rest in
    let whole : length bytes ≡ n + length rest = length-append ((fields 0).spell r) rest ∙ ap (λ (k : ℕ). k + length rest) size in
    let after = length bytes - n in
    let behind : after ≤ length rest = omega arith in
    let spelled : (fields after).spell r ++ rest ≡ bytes = ap (λ (s : List ℕ). s ++ rest) (spells_anywhere after r) in
    let R : List ℕ → Type 0 = λ s. (fields after).read s ≡ Ok (r, rest) in
    let again = subst R spelled ((fields_exact after).again r rest (fits_there after r fits) behind) in
    let end : eqb (length rest + n) (length bytes) ≡ true = (Decides-eqb (length rest + n) (length bytes)).1 (omega arith) in
    rw (again, end) refl

sized_fields_exact : (n : ℕ) → IsExact 0 (sized_fields n)
sized_fields_exact n = record {
  takes = λ bytes x fits e. sized_takes n bytes x fits e;
  again = λ r rest fits behind. sized_again n r rest fits.0 fits.1;
}

pub relative_record_exact : IsExact 0 relative_record
unfolding relative_record
relative_record_exact = sized_exact 0 varint fields_size sized_fields varint_exact sized_fields_exact (record { is_size = λ n r fits. fits.0 })
