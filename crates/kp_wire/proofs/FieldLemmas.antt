-- The fields of Kafka's messages are read as they are written.
use Rattle.std.proofs.Common.{◌≡◌, ℕ, zero, suc, Bool, true, false, List, [], ◌∷◌, ◌++◌, length, Option, Some, None, Ok, refl, subst, arith}
use Rattle.std.specs.Int.{w16, w32, w64}
use Rattle.kp_wire.specs.Codec.{Codec, many, plain, nullable_sized}
use Rattle.kp_wire.specs.Fields.{int16, int32, int64, boolean, read_boolean, records, array_of, nullable_array_of, read_array, spell_array, FitsArray, read_nullable_array, spell_nullable_array, FitsNullableArray}
use Rattle.kp_wire.proofs.ReadLemmas.{IsBytes, IsBytes-rest, Takes, ok_is}
use Rattle.kp_wire.proofs.CodecLemmas.{IsExact, int_exact, sized_exact, nullable_sized_exact, array_exact, many_exact, plain_exact, wide16, wide32, wide64}

pub int16_exact : IsExact 0 int16
int16_exact = int_exact w16 wide16

pub int32_exact : IsExact 0 int32
int32_exact = int_exact w32 wide32

pub int64_exact : IsExact 0 int64
int64_exact = int_exact w64 wide64

boolean_takes : (bytes : List ℕ) (x : Bool × List ℕ) → IsBytes bytes → read_boolean bytes ≡ Ok x → Takes bytes (boolean.spell x.0) x.1 × Unit {0}
unfolding read_boolean
boolean_takes [] x fits e = absurd cc
boolean_takes (zero ∷ bytes) x fits e =
    let got : Bool × List ℕ = (false, bytes) in
    subst (λ (y : Bool × List ℕ). Takes (0 ∷ bytes) (boolean.spell y.0) y.1 × Unit {0}) (ok_is got x e) (record { parts = refl; rest_fits = IsBytes-rest 0 bytes fits }, tt)
boolean_takes (suc zero ∷ bytes) x fits e =
    let got : Bool × List ℕ = (true, bytes) in
    subst (λ (y : Bool × List ℕ). Takes (1 ∷ bytes) (boolean.spell y.0) y.1 × Unit {0}) (ok_is got x e) (record { parts = refl; rest_fits = IsBytes-rest 1 bytes fits }, tt)
boolean_takes (suc (suc n) ∷ bytes) x fits e = absurd cc

boolean_again : (b : Bool) (rest : List ℕ) → read_boolean (boolean.spell b ++ rest) ≡ Ok (b, rest)
unfolding read_boolean
boolean_again true rest = refl
boolean_again false rest = refl

pub boolean_exact : IsExact 0 boolean
boolean_exact = record { takes = boolean_takes; again = λ b rest fits behind. boolean_again b rest }

pub records_exact : IsExact 0 records
unfolding records
records_exact = sized_exact 0 int32 length plain int32_exact plain_exact (record { is_size = λ n s fits. fits })

pub array_of_exact : {A : Type 0} (c : Codec A) → IsExact 0 c → IsExact 0 (array_of c)
unfolding read_array spell_array FitsArray
array_of_exact c p =
    let q = array_exact 0 int32 c int32_exact p in
    record {
      takes = λ bytes x fits e. let t = q.takes bytes x fits e in (t.0, (t.1.0, t.1.1.1));
      again = λ xs rest fits behind. q.again xs rest (fits.0, (refl, fits.1)) behind;
    }

nullable_fits : {A : Type 0} (c : Codec A) (xs : Option (List A)) → (nullable_sized int32 length (many c)).Fits xs → FitsNullableArray c.Fits xs
unfolding FitsArray FitsNullableArray
nullable_fits c None h = tt
nullable_fits c (Some xs) h = (h.0, h.1.1)

nullable_fits_back : {A : Type 0} (c : Codec A) (xs : Option (List A)) → FitsNullableArray c.Fits xs → (nullable_sized int32 length (many c)).Fits xs
unfolding FitsArray FitsNullableArray
nullable_fits_back c None h = omega arith
nullable_fits_back c (Some xs) h = (h.0, (refl, h.1))

nullable_spelling : {A : Type 0} (c : Codec A) (xs : Option (List A)) → (nullable_sized int32 length (many c)).spell xs ≡ spell_nullable_array c.spell xs
unfolding spell_array spell_nullable_array
nullable_spelling c None = refl
nullable_spelling c (Some xs) = refl

pub nullable_array_of_exact : {A : Type 0} (c : Codec A) → IsExact 0 c → IsExact 0 (nullable_array_of c)
unfolding read_nullable_array
nullable_array_of_exact {A = A} c p =
    let q = nullable_sized_exact 0 int32 length (many c) int32_exact (λ n. many_exact 0 c n p) (record { is_size = λ n xs fits. fits.0 }) in
    record {
      takes = λ bytes x fits e.
          let t = q.takes bytes x fits e in
          let T : List ℕ → Type 0 = λ s. Takes bytes s x.1 in
          (subst T (nullable_spelling c x.0) t.0, nullable_fits c x.0 t.1);
      again = λ xs rest fits behind.
          let R : List ℕ → Type 0 = λ s. (nullable_sized int32 length (many c)).read (s ++ rest) ≡ Ok (xs, rest) in
          subst R (nullable_spelling c xs) (q.again xs rest (nullable_fits_back c xs fits) behind);
    }
