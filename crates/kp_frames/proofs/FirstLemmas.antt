-- One frame off the front of bytes.
use Rattle.std.proofs.Common.{◌≡◌, ℕ, ◌+◌, ◌<◌, ◌≤◌, Bool, true, false, ltb, List, ◌++◌, length, take, drop, ℤ, pos, negsuc, Result, Ok, Err, refl, sym, ap, subst, ◌∙◌, inl, inr, append_assoc, arith}
use Rattle.std.specs.Prelude.{nat_abs, FitsSigned}
use Rattle.std.specs.Int.{w32, from_be_bytes, to_be_bytes, cast_signed, cast_unsigned}
use Rattle.std.proofs.Math.Facts.{Fits-of_z}
use Rattle.std.proofs.lemmas.Int.{to_z-of_z, of_z-to_z}
use Rattle.std.proofs.lemmas.Bool.{cases_lt, ltb-false, lt-ltb, le-ltb}
use Rattle.std.proofs.lemmas.List.{length-append, length-take-le, take-append-drop}
use Rattle.kp_wire.specs.Reading.{◌>>=◌, refuse}
use Rattle.kp_wire.specs.Codec.{read_bytes}
use Rattle.kp_wire.proofs.ReadLemmas.{IsBytes, IsBytes-left, done, failed, no_fault, error_is, refuse_ok, or_else_is}
use Rattle.kp_wire.proofs.CodecLemmas.{bytes_again, bytes_read, wide32}
use Rattle.kp_frames.specs.declared.fault.FrameFault.{FrameFault}
use Rattle.kp_frames.specs.declared.fault.FrameFault.TheVariants.{Short, TooLarge}
use Rattle.kp_frames.specs.declared.frame.TheConstants.{CONTENT_LIMIT}
use Rattle.kp_frames.specs.Fault.{of_wire, in_message}
use Rattle.kp_frames.specs.Life.{behind}
use Rattle.kp_frames.specs.Stream.{frame, is_no_size, first}

abbrev pub First : Type 0
First = Result (List ℕ × List ℕ) FrameFault

-- ---- one frame

-- the number in the bytes of a size
abbrev pub size_of : List ℕ → ℤ
size_of size = cast_signed w32 (from_be_bytes w32 size)

pub first_at : (size behind : List ℕ) → length size ≡ 4 → first (size ++ behind) ≡ (refuse (is_no_size (size_of size)) TooLarge >>= λ _. in_message (read_bytes (nat_abs (size_of size)) behind))
unfolding first
first_at size behind len = rw (bytes_again 4 size behind len) refl

pub first_short : (bytes : List ℕ) → length bytes < 4 → first bytes ≡ Err Short
unfolding first
first_short bytes lt = rw (lt-ltb (length bytes) 4 lt) refl

none_below : (n : ℕ) → ltb n 0 ≡ false
none_below n = le-ltb n 0 (omega arith)

sized_as : (z : ℤ) → is_no_size z ≡ false → (n : ℕ) × (z ≡ pos n) × (n ≤ CONTENT_LIMIT)
unfolding is_no_size
sized_as (pos n) e = let fits = rw none_below at e in (n, refl, ltb-false CONTENT_LIMIT n fits)
sized_as (negsuc n) e = absurd cc

is_size : (n : ℕ) → n ≤ CONTENT_LIMIT → is_no_size (pos n) ≡ false
unfolding is_no_size
is_size n le = rw none_below (le-ltb CONTENT_LIMIT n le)

-- These bytes are a frame of this content.
pub record IsFront (bytes content : List ℕ) : Type 0 where
  pub size : List ℕ
  pub parts : bytes ≡ size ++ content
  pub four : length size ≡ 4
  pub is : size_of size ≡ pos (length content)
  pub small : length content ≤ CONTENT_LIMIT

pub front_len : (bytes content : List ℕ) → IsFront bytes content → length bytes ≡ 4 + length content
front_len bytes content p =
    let whole : length bytes ≡ length p.size + length content = ap length p.parts ∙ length-append p.size content in
    let len = p.four in
    omega arith

pub front_first : (bytes content behind : List ℕ) → IsFront bytes content → first (bytes ++ behind) ≡ Ok (content, behind)
front_first bytes content behind p =
    let e : bytes ++ behind ≡ p.size ++ (content ++ behind) = ap (λ (t : List ℕ). t ++ behind) p.parts ∙ append_assoc p.size content behind in
    ap first e ∙ first_at p.size (content ++ behind) p.four
    ∙ rw (p.is, is_size (length content) p.small, bytes_again (length content) content behind refl) refl

-- what stands at the front, where there is a frame
pub record Fronted (bytes content behind : List ℕ) : Type 0 where
  pub front : List ℕ
  pub parts : bytes ≡ front ++ behind
  pub is_front : IsFront front content

fronted_at : (size behind : List ℕ) (x : List ℕ × List ℕ) → length size ≡ 4 → first (size ++ behind) ≡ Ok x → Fronted (size ++ behind) x.0 x.1
fronted_at size behind x len e =
    let a = refuse_ok (is_no_size (size_of size)) TooLarge (λ _. in_message (read_bytes (nat_abs (size_of size)) behind)) x (sym (first_at size behind len) ∙ e) in
    let b = sized_as (size_of size) a.0 in
    let read : in_message (read_bytes b.0 behind) ≡ Ok x = rw (sym (ap nat_abs b.1)) a.1 in
    let c = bytes_read b.0 behind x (or_else_is of_wire (read_bytes b.0 behind) x read) in
    record {
      front = size ++ x.0;
      parts = ap (λ (t : List ℕ). size ++ t) c.1 ∙ sym (append_assoc size x.0 x.1);
      is_front = record { size = size; parts = refl; four = len; is = b.1 ∙ ap pos (sym c.0); small = omega (arith, c.0, b.2) };
    }

pub fronted : (bytes : List ℕ) (x : List ℕ × List ℕ) → first bytes ≡ Ok x → Fronted bytes x.0 x.1
fronted bytes x e =
    elim (cases_lt (length bytes) 4) [
      | inl short ↦ absurd (no_fault Short x (sym (first_short bytes short) ∙ e))
      | inr long ↦
          let same = take-append-drop 4 bytes in
          subst (λ (b : List ℕ). Fronted b x.0 x.1) same
          (fronted_at (take 4 bytes) (drop 4 bytes) x (length-take-le 4 bytes long) (ap first same ∙ e))
    ]

-- The size of no frame is one, whatever stands behind its 4 bytes.
pub record IsLarge (bytes : List ℕ) : Type 0 where
  pub size : List ℕ
  pub behind : List ℕ
  pub parts : bytes ≡ size ++ behind
  pub len : length size ≡ 4
  pub again : (other : List ℕ) → first (size ++ other) ≡ Err TooLarge

is_refused : (b : Bool) (r : First) → (r ≡ Err TooLarge → ⊥) → (refuse b TooLarge >>= λ _. r) ≡ Err TooLarge → b ≡ true
is_refused true r other e = refl
is_refused false r other e = absurd (other e)

never_large : (n : ℕ) (bytes : List ℕ) → in_message (read_bytes n bytes) ≡ failed TooLarge → ⊥
never_large n bytes e =
    elim (cases_lt (length bytes) n) [
      | inl short ↦
          let cut : in_message (read_bytes n bytes) ≡ failed Short = rw (lt-ltb (length bytes) n short) refl in
          cc
      | inr long ↦
          let whole : in_message (read_bytes n bytes) ≡ done (take n bytes, drop n bytes) = rw (le-ltb (length bytes) n long) refl in
          cc
    ]

large_at : (size behind : List ℕ) → length size ≡ 4 → first (size ++ behind) ≡ Err TooLarge → IsLarge (size ++ behind)
large_at size behind len e =
    let n = nat_abs (size_of size) in
    let b = is_refused (is_no_size (size_of size)) (in_message (read_bytes n behind)) (never_large n behind) (sym (first_at size behind len) ∙ e) in
    record { size = size; behind = behind; parts = refl; len = len; again = λ other. first_at size other len ∙ rw b refl }

pub large : (bytes : List ℕ) → first bytes ≡ Err TooLarge → IsLarge bytes
large bytes e =
    elim (cases_lt (length bytes) 4) [
      | inl short ↦ let cut : Short ≡ TooLarge = error_is {A = List ℕ × List ℕ} Short TooLarge (sym (first_short bytes short) ∙ e) in absurd cc
      | inr long ↦
          let same = take-append-drop 4 bytes in
          subst IsLarge same (large_at (take 4 bytes) (drop 4 bytes) (length-take-le 4 bytes long) (ap first same ∙ e))
    ]

-- ---- a frame's spelling

fits_limit : (n : ℕ) → n ≤ CONTENT_LIMIT → FitsSigned w32 (pos n)
fits_limit n le = omega arith

pub frame_front : (content : List ℕ) → length content ≤ CONTENT_LIMIT → IsFront (frame.spell content) content
unfolding frame
frame_front content small =
    let z = pos (length content) in
    let fits : FitsSigned w32 z = fits_limit (length content) small in
    record {
      size = to_be_bytes w32 (cast_unsigned w32 z);
      parts = refl;
      four = refl;
      is = ap (cast_signed w32) (wide32.again (cast_unsigned w32 z) (Fits-of_z fits).fits) ∙ to_z-of_z w32 z fits;
      small = small;
    }

pub front_spelled : (front content : List ℕ) → IsBytes front → IsFront front content → front ≡ frame.spell content
unfolding frame
front_spelled front content fits p =
    let small = IsBytes-left p.size content (subst IsBytes p.parts fits) in
    let back : to_be_bytes w32 (from_be_bytes w32 p.size) ≡ p.size = wide32.back p.size p.four small in
    let same : cast_unsigned w32 (size_of p.size) ≡ from_be_bytes w32 p.size = of_z-to_z w32 (from_be_bytes w32 p.size) (wide32.below p.size small) in
    p.parts ∙ ap (λ (t : List ℕ). t ++ content) (sym back ∙ ap (to_be_bytes w32) (sym same ∙ ap (cast_unsigned w32) p.is))

-- Bytes with a frame at the front are its spelling and the bytes behind it.
pub first_spelled : (bytes content behind : List ℕ) → IsBytes bytes → first bytes ≡ Ok (content, behind) → bytes ≡ frame.spell content ++ behind
first_spelled bytes content behind fits e =
    let f = fronted bytes (content, behind) e in
    f.parts ∙ ap (λ (t : List ℕ). t ++ behind) (front_spelled f.front content (IsBytes-left f.front behind (subst IsBytes f.parts fits)) f.is_front)
