-- A format that is put together from exact ones is exact.
use Rattle.std.proofs.Common.{◌≡◌, ℕ, zero, suc, ◌%◌, ◌^◌, ◌<◌, ◌≤◌, false, cond, ltb, List, [], ◌∷◌, ◌++◌, length, take, drop, ℤ, pos, negsuc, Option, Some, None, Ok, Err, refl, sym, ap, subst, ◌∙◌, append_assoc, arith, inl, inr}
use Rattle.std.specs.Prelude.{FitsSigned}
use mir.Val.{bits}
use Rattle.std.specs.Int.{Width, w8, w16, w32, w64, byte_len, from_be_bytes, to_be_bytes, cast_signed, cast_unsigned}
use Rattle.std.specs.List.{flat_map, AllByRecursion}
use Rattle.std.proofs.Math.Facts.{sfits_to_z, Fits-of_z}
use Rattle.std.proofs.lemmas.Bool.{ltb-false, le-ltb}
use Rattle.std.proofs.lemmas.Int.{to_z-of_z, of_z-to_z}
use Rattle.std.proofs.lemmas.List.{take_at, drop_at, take-append-drop, length-append, length-take-le}
use Rattle.std.proofs.lemmas.List.Concat.{flat_map-cons}
use Rattle.std.proofs.lemmas.Nat.{be_bytes_2, be_bytes_4, be_bytes_8, from_be_bytes-to_be_bytes_2, from_be_bytes-to_be_bytes_4, from_be_bytes-to_be_bytes_8}
use Rattle.kp_wire.specs.declared.fault.WireFault.TheVariants.{Short, NotUtf8}
use Rattle.kp_wire.specs.Reading.{Read, ◌>>=◌}
use Rattle.std.specs.Str.{IsUtf8, is_utf8}
use Rattle.std.proofs.lemmas.Str.{IsUtf8-from_is_utf8, is_utf8-from_IsUtf8}
use Rattle.kp_wire.specs.Codec.{Codec, read_bytes, int, number, pair, made, within, ends_before, read_many, many, plain, utf8, by_length, by_nullable_length, sized, nullable_sized, spell_nullable, FitsIfSome, array}
use Rattle.kp_wire.proofs.ReadLemmas.{IsBytes, IsBytes-left, IsBytes-right, Takes, Takes-then, bind_ok, chosen, let_through, no_fault, ok_is}

-- What is read is spelled so, and what is spelled so is read, whatever follows of `after` bytes or more.
pub record IsExact {A : Type 0} (after : ℕ) (c : Codec A) : Type 0 where
  pub takes : (bytes : List ℕ) (x : A × List ℕ) → IsBytes bytes → c.read bytes ≡ Ok x → Takes bytes (c.spell x.0) x.1 × c.Fits x.0
  pub again : (a : A) (rest : List ℕ) → c.Fits a → after ≤ length rest → c.read (c.spell a ++ rest) ≡ Ok (a, rest)

-- no spelling begins another, and each is that of one value
pub one_spelling : {A : Type 0} (c : Codec A) → IsExact 0 c → (a b : A) (x y : List ℕ) → c.Fits a → c.Fits b → c.spell a ++ x ≡ c.spell b ++ y → (a ≡ b) × (x ≡ y)
one_spelling {A = A} c p a b x y f g e =
    let same = ok_is (a, x) (b, y) (sym (p.again a x f (omega arith)) ∙ ap c.read e ∙ p.again b y g (omega arith)) in
    (ap (λ (z : A × List ℕ). z.0) same, ap (λ (z : A × List ℕ). z.1) same)

-- ---- formats from formats

pub pair_exact : {A B : Type 0} (after : ℕ) (c : Codec A) (d : Codec B) → IsExact after c → IsExact after d → IsExact after (pair c d)
pair_exact {A = A} {B = B} after c d p q = record {
  takes = λ bytes z fits e.
      let a = bind_ok (c.read bytes) (λ x. d.read x.1 >>= λ y. Ok ((x.0, y.0), y.1)) z e in
      let b = bind_ok (d.read a.0.1) (λ y. Ok ((a.0.0, y.0), y.1)) z a.2 in
      let t = p.takes bytes a.0 fits a.1 in
      let u = q.takes a.0.1 b.0 t.0.rest_fits b.1 in
      let got : (A × B) × List ℕ = ((a.0.0, b.0.0), b.0.1) in
      subst (λ (y : (A × B) × List ℕ). Takes bytes (c.spell y.0.0 ++ d.spell y.0.1) y.1 × (c.Fits y.0.0 × d.Fits y.0.1)) (ok_is got z b.2)
      (Takes-then bytes (c.spell a.0.0) a.0.1 (d.spell b.0.0) b.0.1 t.0 u.0, (t.1, u.1));
  again = λ x rest fits behind.
      let longer : after ≤ length (d.spell x.1 ++ rest) = omega (arith, length-append (d.spell x.1) rest) in
      ap (pair c d).read (append_assoc (c.spell x.0) (d.spell x.1) rest) ∙ rw (p.again x.0 (d.spell x.1 ++ rest) fits.0 longer, q.again x.1 rest fits.1 behind) refl;
}

-- what holds of all that c reads holds of what is made of it
pub made_takes : {A B : Type 0} (after : ℕ) (c : Codec A) (make : A → B) (P : B → List ℕ → Type 0) (bytes : List ℕ) (x : B × List ℕ) → IsExact after c → IsBytes bytes
    → ((a : A) (rest : List ℕ) → Takes bytes (c.spell a) rest → c.Fits a → P (make a) rest) → (c.read bytes >>= λ y. Ok (make y.0, y.1)) ≡ Ok x → P x.0 x.1
made_takes {B = B} after c make P bytes x p fits holds e =
    let a = bind_ok (c.read bytes) (λ y. Ok (make y.0, y.1)) x e in
    let t = p.takes bytes a.0 fits a.1 in
    let got : B × List ℕ = (make a.0.0, a.0.1) in
    let R : B × List ℕ → Type 0 = λ y. P y.0 y.1 in
    subst R (ok_is got x a.2) (holds a.0.0 a.0.1 t.0 t.1)

pub made_exact : {A B : Type 0} (after : ℕ) (make : A → B) (parts : B → A) (c : Codec A) → ((a : A) → parts (make a) ≡ a) → ((b : B) → make (parts b) ≡ b) → IsExact after c → IsExact after (made make parts c)
made_exact {A = A} {B = B} after make parts c there back p = record {
  takes = λ bytes z fits e.
      made_takes after c make (λ b rest. Takes bytes (c.spell (parts b)) rest × c.Fits (parts b)) bytes z p fits
      (λ a rest t f. subst (λ (v : A). Takes bytes (c.spell v) rest × c.Fits v) (sym (there a)) (t, f)) e;
  again = λ b rest fits behind. rw (p.again (parts b) rest fits behind) (ap (λ (x : B). Ok (x, rest)) (back b));
}

ended : {A : Type 0} (after : ℕ) (read : Read A) (x : A × List ℕ) → ends_before after read ≡ Ok x → read ≡ Ok x
ended after (Ok y) x e = elim (chosen (ltb (length y.1) after) _ _ _ e) [ inl past ↦ absurd cc | inr ok ↦ ok.1 ]
ended after (Err fault) x e = absurd cc

pub ends_again : {A : Type 0} (after : ℕ) (read : Read A) (a : A) (rest : List ℕ) → read ≡ Ok (a, rest) → after ≤ length rest → ends_before after read ≡ Ok (a, rest)
ends_again after read a rest e behind = rw (e, le-ltb (length rest) after behind) refl

pub within_exact : {A : Type 0} (after : ℕ) (c : Codec A) → IsExact 0 c → IsExact after (within after c)
within_exact after c p = record {
  takes = λ bytes x fits e. p.takes bytes x fits (ended after (c.read bytes) x e);
  again = λ a rest fits behind. ends_again after (c.read (c.spell a ++ rest)) a rest (p.again a rest fits (omega arith)) behind;
}

-- ---- so many values

pub many_takes : {A : Type 0} (after : ℕ) (c : Codec A) (n : ℕ) (bytes : List ℕ) (x : List A × List ℕ) → IsExact after c → IsBytes bytes → read_many c.read n bytes ≡ Ok x
    → (length x.0 ≡ n) × Takes bytes (flat_map c.spell x.0) x.1 × AllByRecursion c.Fits x.0
unfolding read_many
many_takes {A = A} after c zero bytes x p fits e =
    let got : List A × List ℕ = ([], bytes) in
    subst (λ (y : List A × List ℕ). (length y.0 ≡ 0) × Takes bytes (flat_map c.spell y.0) y.1 × AllByRecursion c.Fits y.0) (ok_is got x e) (refl, record { parts = refl; rest_fits = fits }, tt)
many_takes {A = A} after c (suc n) bytes x p fits e =
    let a = bind_ok (c.read bytes) (λ y. read_many c.read n y.1 >>= λ ys. Ok (y.0 ∷ ys.0, ys.1)) x e in
    let b = bind_ok (read_many c.read n a.0.1) (λ ys. Ok (a.0.0 ∷ ys.0, ys.1)) x a.2 in
    let t = p.takes bytes a.0 fits a.1 in
    let u = many_takes after c n a.0.1 b.0 p t.0.rest_fits b.1 in
    let got : List A × List ℕ = (a.0.0 ∷ b.0.0, b.0.1) in
    subst (λ (y : List A × List ℕ). (length y.0 ≡ suc n) × Takes bytes (flat_map c.spell y.0) y.1 × AllByRecursion c.Fits y.0) (ok_is got x b.2)
    (ap suc u.0, rw flat_map-cons (Takes-then bytes (c.spell a.0.0) a.0.1 (flat_map c.spell b.0.0) b.0.1 t.0 u.1), (t.1, u.2))

pub many_again : {A : Type 0} (after : ℕ) (c : Codec A) (xs : List A) (rest : List ℕ) → IsExact after c → AllByRecursion c.Fits xs → after ≤ length rest → read_many c.read (length xs) (flat_map c.spell xs ++ rest) ≡ Ok (xs, rest)
unfolding read_many
many_again after c [] rest p fits behind = refl
many_again after c (x ∷ xs) rest p fits behind =
    let e : flat_map c.spell (x ∷ xs) ++ rest ≡ c.spell x ++ (flat_map c.spell xs ++ rest) = ap (λ (t : List ℕ). t ++ rest) (flat_map-cons c.spell x xs) ∙ append_assoc (c.spell x) (flat_map c.spell xs) rest in
    let longer : after ≤ length (flat_map c.spell xs ++ rest) = omega (arith, length-append (flat_map c.spell xs) rest) in
    ap (read_many c.read (suc (length xs))) e ∙ rw (p.again x (flat_map c.spell xs ++ rest) fits.0 longer, many_again after c xs rest p fits.1 behind) refl

-- ---- fields of a fixed number of bytes

pub bytes_read : (n : ℕ) (bytes : List ℕ) (x : List ℕ × List ℕ) → read_bytes n bytes ≡ Ok x → (length x.0 ≡ n) × (bytes ≡ x.0 ++ x.1)
bytes_read n bytes x e =
    elim (chosen (ltb (length bytes) n) _ _ _ e) [
      | inl short ↦ absurd (no_fault Short x short.1)
      | inr ok ↦
          subst (λ (p : List ℕ × List ℕ). (length p.0 ≡ n) × (bytes ≡ p.0 ++ p.1)) (ok_is (take n bytes, drop n bytes) x ok.1)
          (length-take-le n bytes (ltb-false _ _ ok.0), sym (take-append-drop n bytes))
    ]

pub bytes_takes : (n : ℕ) (bytes : List ℕ) (x : List ℕ × List ℕ) → IsBytes bytes → read_bytes n bytes ≡ Ok x → (length x.0 ≡ n) × Takes bytes x.0 x.1
bytes_takes n bytes x fits e =
    let r = bytes_read n bytes x e in
    (r.0, record { parts = r.1; rest_fits = IsBytes-right x.0 x.1 (subst IsBytes r.1 fits) })

pub bytes_again : (n : ℕ) (text rest : List ℕ) → length text ≡ n → read_bytes n (text ++ rest) ≡ Ok (text, rest)
bytes_again n text rest len =
    let long : ltb (length (text ++ rest)) n ≡ false = le-ltb _ _ (omega (arith, length-append text rest)) in
    rw (long, take_at text rest n len, drop_at text rest n len) refl

pub plain_exact : (n : ℕ) → IsExact 0 (plain n)
plain_exact n = record {
  takes = λ bytes x fits e. let t = bytes_takes n bytes x fits e in (t.1, t.0);
  again = λ s rest len behind. bytes_again n s rest len;
}

-- the bytes of a number of this width are that number
pub record IsWide (w : Width) : Type 0 where
  pub len : (n : ℕ) → length (to_be_bytes w n) ≡ byte_len w
  pub back : (bytes : List ℕ) → length bytes ≡ byte_len w → IsBytes bytes → to_be_bytes w (from_be_bytes w bytes) ≡ bytes
  pub again : (n : ℕ) → n < 2 ^ bits w → from_be_bytes w (to_be_bytes w n) ≡ n
  pub below : (bytes : List ℕ) → IsBytes bytes → from_be_bytes w bytes < 2 ^ bits w

pub number_exact : (w : Width) → IsWide w → IsExact 0 (number w)
number_exact w wide = record {
  takes = λ bytes x fits e.
      made_takes 0 (plain (byte_len w)) (from_be_bytes w) (λ n rest. Takes bytes (to_be_bytes w n) rest × (n < 2 ^ bits w)) bytes x (plain_exact (byte_len w)) fits
      (λ s rest t len.
      let small = IsBytes-left s rest (subst IsBytes t.parts fits) in
      (subst (λ (y : List ℕ). Takes bytes y rest) (sym (wide.back s len small)) t, wide.below s small)) e;
  again = λ n rest lt behind.
      rw (bytes_again (byte_len w) (to_be_bytes w n) rest (wide.len n), wide.again n lt) refl;
}

pub int_exact : (w : Width) → IsWide w → IsExact 0 (int w)
int_exact w wide = record {
  takes = λ bytes x fits e.
      made_takes 0 (number w) (cast_signed w) (λ z rest. Takes bytes (to_be_bytes w (cast_unsigned w z)) rest × FitsSigned w z) bytes x (number_exact w wide) fits
      (λ n rest t lt. (subst (λ (m : ℕ). Takes bytes (to_be_bytes w m) rest) (sym (of_z-to_z w n lt)) t, sfits_to_z (record { fits = lt }))) e;
  again = λ z rest fits behind.
      rw ((number_exact w wide).again (cast_unsigned w z) rest (Fits-of_z fits).fits behind) (ap (λ (y : ℤ). Ok (y, rest)) (to_z-of_z w z fits));
}

-- the widths

one_byte : (bytes : List ℕ) → length bytes ≡ 1 → IsBytes bytes → to_be_bytes w8 (from_be_bytes w8 bytes) ≡ bytes
one_byte [] len fits = absurd (omega arith)
one_byte (b ∷ []) len fits = let small : b < 256 = fits 0 in let e : b % 256 ≡ b = omega arith in ap (λ (x : ℕ). x ∷ []) e
one_byte (b ∷ c ∷ bytes) len fits = absurd (omega arith)

pub wide8 : IsWide w8
wide8 = record {
  len = λ n. refl;
  back = one_byte;
  again = λ n lt. let e : n % 256 ≡ n = omega arith in e;
  below = λ bytes fits. omega (arith, fits 0);
}

pub wide16 : IsWide w16
wide16 = record {
  len = λ n. refl;
  back = λ bytes len fits. be_bytes_2 bytes _ len fits refl;
  again = λ n lt. from_be_bytes-to_be_bytes_2 n lt;
  below = λ bytes fits. omega (arith, fits 0, fits 1);
}

pub wide32 : IsWide w32
wide32 = record {
  len = λ n. refl;
  back = λ bytes len fits. be_bytes_4 bytes _ len fits refl;
  again = λ n lt. from_be_bytes-to_be_bytes_4 n lt;
  below = λ bytes fits. omega (arith, fits 0, fits 1, fits 2, fits 3);
}

pub wide64 : IsWide w64
wide64 = record {
  len = λ n. refl;
  back = λ bytes len fits. be_bytes_8 bytes _ len fits refl;
  again = λ n lt. from_be_bytes-to_be_bytes_8 n lt;
  below = λ bytes fits. omega (arith, fits 0, fits 1, fits 2, fits 3, fits 4, fits 5, fits 6, fits 7);
}

-- ---- lengths and counts

pub utf8_exact : (n : ℕ) → IsExact 0 (utf8 n)
utf8_exact n = record {
  takes = λ bytes x fits e.
      let a = bind_ok (read_bytes n bytes) (λ y. cond (is_utf8 y.0) (Ok y) (Err NotUtf8)) x e in
      let t = bytes_takes n bytes a.0 fits a.1 in
      let u = let_through (is_utf8 a.0.0) NotUtf8 a.0 x a.2 in
      subst (λ (y : List ℕ × List ℕ). Takes bytes y.0 y.1 × ((length y.0 ≡ n) × IsUtf8 y.0)) u.1 (t.1, (t.0, IsUtf8-from_is_utf8 a.0.0 u.0));
  again = λ s rest fits behind.
      rw (bytes_again n s rest fits.0, is_utf8-from_IsUtf8 s fits.1) refl;
}

pub many_exact : {A : Type 0} (after : ℕ) (c : Codec A) (n : ℕ) → IsExact after c → IsExact after (many c n)
many_exact {A = A} after c n p = record {
  takes = λ bytes x fits e. let t = many_takes after c n bytes x p fits e in (t.1, (t.0, t.2));
  again = λ xs rest fits behind.
      let P : ℕ → Type 0 = λ k. read_many c.read k (flat_map c.spell xs ++ rest) ≡ Ok (xs, rest) in
      subst P fits.0 (many_again after c xs rest p fits.1 behind);
}

-- the size of what is read is that which it is read by
pub record IsSizedBy {A : Type 0} (size : A → ℕ) (part : ℕ → Codec A) : Type 0 where
  pub is_size : (n : ℕ) (a : A) → (part n).Fits a → size a ≡ n

by_length_ok : {A : Type 0} (read : ℕ → List ℕ → Read A) (z : ℤ) (bytes : List ℕ) (x : A × List ℕ) → by_length read z bytes ≡ Ok x → (k : ℕ) × (z ≡ pos k) × (read k bytes ≡ Ok x)
unfolding by_length
by_length_ok read (pos k) bytes x e = (k, refl, e)
by_length_ok read (negsuc k) bytes x e = absurd cc

pub sized_exact : {A : Type 0} (after : ℕ) (len : Codec ℤ) (size : A → ℕ) (part : ℕ → Codec A) → IsExact after len → ((n : ℕ) → IsExact after (part n)) → IsSizedBy size part → IsExact after (sized len size part)
unfolding by_length
sized_exact {A = A} after len size part p q by_size = record {
  takes = λ bytes x fits e.
      let a = bind_ok (len.read bytes) (λ n. by_length (λ k. (part k).read) n.0 n.1) x e in
      let t = p.takes bytes a.0 fits a.1 in
      let b = by_length_ok (λ k. (part k).read) a.0.0 a.0.1 x a.2 in
      let u = (q b.0).takes a.0.1 x t.0.rest_fits b.2 in
      let P : ℕ → Type 0 = λ k. Takes bytes (len.spell (pos k) ++ (part k).spell x.0) x.1 × (len.Fits (pos k) × (part k).Fits x.0) in
      let L : ℤ → Type 0 = λ z. Takes bytes (len.spell z) a.0.1 × len.Fits z in
      let front = subst L b.1 t in
      subst P (sym (by_size.is_size b.0 x.0 u.1)) (Takes-then bytes (len.spell (pos b.0)) a.0.1 ((part b.0).spell x.0) x.1 front.0 u.0, (front.1, u.1));
  again = λ a rest fits behind.
      let longer : after ≤ length ((part (size a)).spell a ++ rest) = omega (arith, length-append ((part (size a)).spell a) rest) in
      ap (sized len size part).read (append_assoc (len.spell (pos (size a))) ((part (size a)).spell a) rest)
      ∙ rw (p.again (pos (size a)) ((part (size a)).spell a ++ rest) fits.0 longer) ((q (size a)).again a rest fits.1 behind);
}

by_nullable_takes : {A : Type 0} (after : ℕ) (len : Codec ℤ) (size : A → ℕ) (part : ℕ → Codec A) → ((n : ℕ) → IsExact after (part n)) → IsSizedBy size part
    → (z : ℤ) (bytes rest : List ℕ) (x : Option A × List ℕ) → IsBytes rest → Takes bytes (len.spell z) rest → len.Fits z → by_nullable_length (λ k. (part k).read) z rest ≡ Ok x
    → Takes bytes (spell_nullable len size part x.0) x.1 × FitsIfSome len size part x.0
unfolding by_nullable_length
by_nullable_takes {A = A} after len size part q by_size (pos k) bytes rest x small t fits e =
    let a = bind_ok ((part k).read rest) (λ y. Ok (Some y.0, y.1)) x e in
    let u = (q k).takes rest a.0 small a.1 in
    let got : Option A × List ℕ = (Some a.0.0, a.0.1) in
    let P : ℕ → Type 0 = λ n. Takes bytes (len.spell (pos n) ++ (part n).spell a.0.0) a.0.1 × (len.Fits (pos n) × (part n).Fits a.0.0) in
    let R : Option A × List ℕ → Type 0 = λ y. Takes bytes (spell_nullable len size part y.0) y.1 × FitsIfSome len size part y.0 in
    subst R (ok_is got x a.2)
    (subst P (sym (by_size.is_size k a.0.0 u.1)) (Takes-then bytes (len.spell (pos k)) rest ((part k).spell a.0.0) a.0.1 t u.0, (fits, u.1)))
by_nullable_takes {A = A} after len size part q by_size (negsuc zero) bytes rest x small t fits e =
    let got : Option A × List ℕ = (None, rest) in
    let R : Option A × List ℕ → Type 0 = λ y. Takes bytes (spell_nullable len size part y.0) y.1 × FitsIfSome len size part y.0 in
    subst R (ok_is got x e) (t, fits)
by_nullable_takes after len size part q by_size (negsuc (suc k)) bytes rest x small t fits e = absurd cc

nullable_again : {A : Type 0} (after : ℕ) (len : Codec ℤ) (size : A → ℕ) (part : ℕ → Codec A) → IsExact after len → ((n : ℕ) → IsExact after (part n))
    → (o : Option A) (rest : List ℕ) → FitsIfSome len size part o → after ≤ length rest → (nullable_sized len size part).read (spell_nullable len size part o ++ rest) ≡ Ok (o, rest)
unfolding by_nullable_length
nullable_again after len size part p q None rest fits behind = rw (p.again (negsuc 0) rest fits behind) refl
nullable_again after len size part p q (Some a) rest fits behind =
    let longer : after ≤ length ((part (size a)).spell a ++ rest) = omega (arith, length-append ((part (size a)).spell a) rest) in
    ap (nullable_sized len size part).read (append_assoc (len.spell (pos (size a))) ((part (size a)).spell a) rest)
    ∙ rw (p.again (pos (size a)) ((part (size a)).spell a ++ rest) fits.0 longer, (q (size a)).again a rest fits.1 behind) refl

pub nullable_sized_exact : {A : Type 0} (after : ℕ) (len : Codec ℤ) (size : A → ℕ) (part : ℕ → Codec A) → IsExact after len → ((n : ℕ) → IsExact after (part n)) → IsSizedBy size part → IsExact after (nullable_sized len size part)
nullable_sized_exact after len size part p q by_size = record {
  takes = λ bytes x fits e.
      let a = bind_ok (len.read bytes) (λ n. by_nullable_length (λ k. (part k).read) n.0 n.1) x e in
      let t = p.takes bytes a.0 fits a.1 in
      by_nullable_takes after len size part q by_size a.0.0 bytes a.0.1 x t.0.rest_fits t.0 t.1 a.2;
  again = λ o rest fits behind. nullable_again after len size part p q o rest fits behind;
}

pub array_exact : {A : Type 0} (after : ℕ) (len : Codec ℤ) (c : Codec A) → IsExact after len → IsExact after c → IsExact after (array len c)
array_exact after len c p q = sized_exact after len length (many c) p (λ n. many_exact after c n q) (record { is_size = λ n xs fits. fits.0 })
