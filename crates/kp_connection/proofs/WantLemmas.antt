-- A frame of which no more is read than it wants.
use Rattle.std.proofs.Common.{◌≡◌, ℕ, ◌+◌, ◌-◌, ◌<◌, ◌≤◌, Bool, true, false, ltb, List, [], ◌∷◌, ◌++◌, ◌⊎◌, length, take, drop, ℤ, pos, negsuc, Ok, Err, refl, sym, ap, ◌∙◌, inl, inr, append_assoc, arith}
use Rattle.std.specs.Prelude.{nat_abs}
use Rattle.std.proofs.lemmas.Bool.{cases_lt, lt-ltb, le-ltb, ltb-false}
use Rattle.std.proofs.lemmas.List.{length-append, length-take-le, length-drop, take-append-drop, take_all, nil_from_length, append-nil}
use Rattle.kp_wire.specs.Reading.{◌>>=◌, refuse}
use Rattle.kp_wire.specs.Codec.{read_bytes}
use Rattle.kp_wire.proofs.ReadLemmas.{done, failed, no_fault, error_is, refuse_ok}
use Rattle.kp_wire.proofs.CodecLemmas.{bytes_again}
use Rattle.kp_frames.specs.declared.fault.FrameFault.{FrameFault}
use Rattle.kp_frames.specs.declared.fault.FrameFault.TheVariants.{Short, TooLarge}
use Rattle.kp_frames.specs.declared.frame.TheConstants.{CONTENT_LIMIT}
use Rattle.kp_frames.specs.Fault.{in_message}
use Rattle.kp_frames.specs.Stream.{Split, is_no_size, first, wanted, stream, is_faulty, kept}
use Rattle.kp_frames.proofs.FirstLemmas.{First, size_of, first_at, first_short}
use Rattle.kp_frames.proofs.StreamLemmas.{first_then, first_none, faulty_none, faulty_so}
use Rattle.kp_frames.proofs.KeptLemmas.{none_faulty}

-- ---- the size at the front

wanted_short : (bytes : List ℕ) → length bytes < 4 → wanted bytes ≡ 4 - length bytes
unfolding wanted
wanted_short bytes lt = rw (lt-ltb (length bytes) 4 lt) refl

wanted_at : (size rest : List ℕ) → length size ≡ 4 → is_no_size (size_of size) ≡ false → wanted (size ++ rest) ≡ nat_abs (size_of size) - length rest
unfolding wanted
wanted_at size rest len is = rw (bytes_again 4 size rest len, is) refl

small_size : (z : ℤ) → is_no_size z ≡ false → nat_abs z ≤ CONTENT_LIMIT
unfolding is_no_size
small_size (pos n) e = let none : ltb n 0 ≡ false = le-ltb n 0 (omega arith) in let fits = rw none at e in ltb-false CONTENT_LIMIT n fits
small_size (negsuc n) e = absurd cc

-- what a read of a content gives
content_read : (n : ℕ) (rest : List ℕ) → ((length rest < n) × (in_message (read_bytes n rest) ≡ failed Short)) ⊎ ((n ≤ length rest) × (in_message (read_bytes n rest) ≡ done (take n rest, drop n rest)))
content_read n rest =
    elim (cases_lt (length rest) n) [
      | inl short ↦ inl (short, rw (lt-ltb (length rest) n short) refl)
      | inr long ↦ inr (long, rw (le-ltb (length rest) n long) refl)
    ]

short_large : failed {A = List ℕ × List ℕ} Short ≡ failed TooLarge → ⊥
short_large e = let same : Short ≡ TooLarge = error_is {A = List ℕ × List ℕ} Short TooLarge e in absurd cc

-- ---- part of a frame

-- less than a frame: a size, and less than it says
record Part (bytes : List ℕ) : Type 0 where
  size : List ℕ
  rest : List ℕ
  parts : bytes ≡ size ++ rest
  four : length size ≡ 4
  is_size : is_no_size (size_of size) ≡ false
  less : length rest < nat_abs (size_of size)

part_by : (b : Bool) (n : ℕ) (rest : List ℕ) → (refuse b TooLarge >>= λ _. in_message (read_bytes n rest)) ≡ failed Short → (b ≡ false) × (length rest < n)
part_by true n rest e = absurd (short_large (sym e))
part_by false n rest e =
    elim (content_read n rest) [
      | inl short ↦ (refl, short.0)
      | inr long ↦ absurd (no_fault Short (take n rest, drop n rest) (sym e ∙ long.1))
    ]

part_of : (bytes : List ℕ) → 4 ≤ length bytes → first bytes ≡ Err Short → Part bytes
part_of bytes long e =
    let size = take 4 bytes in
    let rest = drop 4 bytes in
    let same : size ++ rest ≡ bytes = take-append-drop 4 bytes in
    let four : length size ≡ 4 = length-take-le 4 bytes long in
    let p = part_by (is_no_size (size_of size)) (nat_abs (size_of size)) rest (sym (first_at size rest four) ∙ ap first same ∙ e) in
    record { size = size; rest = rest; parts = sym same; four = four; is_size = p.0; less = p.1 }

-- ---- how much it wants

wanted_more : (bytes : List ℕ) → Part bytes → (p : Part bytes) → wanted bytes ≡ nat_abs (size_of p.size) - length p.rest
wanted_more bytes q p = ap wanted p.parts ∙ wanted_at p.size p.rest p.four p.is_size

pub wants_some : (bytes : List ℕ) → first bytes ≡ Err Short → 0 < wanted bytes
wants_some bytes e =
    elim (cases_lt (length bytes) 4) [
      | inl short ↦ omega (arith, wanted_short bytes short)
      | inr long ↦ let p = part_of bytes long e in omega (arith, wanted_more bytes p p, p.less)
    ]

pub part_small : (bytes : List ℕ) → first bytes ≡ Err Short → length bytes < 4 + CONTENT_LIMIT
part_small bytes e =
    elim (cases_lt (length bytes) 4) [
      | inl short ↦ omega arith
      | inr long ↦
          let p = part_of bytes long e in
          let len : length bytes ≡ length p.size + length p.rest = ap length p.parts ∙ length-append p.size p.rest in
          omega (arith, p.less, p.four, small_size (size_of p.size) p.is_size)
    ]

-- ---- as much as it wants, and no more

-- a size, and no more than it says
record Whole (bytes : List ℕ) : Type 0 where
  size : List ℕ
  rest : List ℕ
  parts : bytes ≡ size ++ rest
  four : length size ≡ 4
  most : (length rest ≡ 0) ⊎ ((is_no_size (size_of size) ≡ false) × (length rest ≤ nat_abs (size_of size)))

whole_of : (bytes more : List ℕ) → first bytes ≡ Err Short → length more ≤ wanted bytes → (length (bytes ++ more) < 4) ⊎ Whole (bytes ++ more)
whole_of bytes more e le =
    elim (cases_lt (length bytes) 4) [
      | inl short ↦
          elim (cases_lt (length (bytes ++ more)) 4) [
            | inl less ↦ inl less
            | inr all ↦
                let len : length (bytes ++ more) ≡ 4 = omega (arith, length-append bytes more, wanted_short bytes short) in
                inr (record { size = bytes ++ more; rest = []; parts = sym (append-nil (bytes ++ more)); four = len; most = inl refl })
          ]
      | inr long ↦
          let p = part_of bytes long e in
          let wants = wanted_more bytes p p in
          let less = p.less in
          let both = length-append p.rest more in
          inr (record {
            size = p.size;
            rest = p.rest ++ more;
            parts = ap (λ (t : List ℕ). t ++ more) p.parts ∙ append_assoc p.size p.rest more;
            four = p.four;
            most = inr (p.is_size, omega arith);
          })
    ]

at_end : (size rest : List ℕ) (x : List ℕ × List ℕ) → length size ≡ 4 → first (size ++ rest) ≡ Ok x → (length rest ≡ 0) ⊎ (length rest ≤ nat_abs (size_of size)) → x.1 ≡ []
at_end size rest x four e most =
    let n = nat_abs (size_of size) in
    let a = refuse_ok (is_no_size (size_of size)) TooLarge (λ _. in_message (read_bytes n rest)) x (sym (first_at size rest four) ∙ e) in
    elim (content_read n rest) [
      | inl short ↦ absurd (no_fault Short x (sym short.1 ∙ a.1))
      | inr long ↦
          let is : (take n rest, drop n rest) ≡ x = ok_same (take n rest, drop n rest) x (sym long.1 ∙ a.1) in
          let left = length-drop n rest in
          let none : length (drop n rest) ≡ 0 = elim most [ inl zero ↦ omega arith | inr le ↦ omega arith ] in
          ap (λ (y : List ℕ × List ℕ). y.1) (sym is) ∙ nil_from_length (drop n rest) none
    ]
  where
    ok_same : (a b : List ℕ × List ℕ) → done {E = FrameFault} a ≡ done b → a ≡ b
    ok_same a b e = cc

-- Where it wanted as many bytes or more, nothing stands behind the frame.
pub nothing_behind : (bytes more content rest : List ℕ) → first bytes ≡ Err Short → length more ≤ wanted bytes → first (bytes ++ more) ≡ Ok (content, rest) → rest ≡ []
nothing_behind bytes more content rest e le is =
    elim (whole_of bytes more e le) [
      | inl less ↦ absurd (no_fault Short (content, rest) (sym (first_short (bytes ++ more) less) ∙ is))
      | inr p ↦ at_end p.size p.rest (content, rest) p.four (ap first (sym p.parts) ∙ is) (elim p.most [ inl zero ↦ inl zero | inr both ↦ inr both.1 ])
    ]

-- and a size of no frame is all that was read
pub size_alone : (bytes more : List ℕ) → first bytes ≡ Err Short → length more ≤ wanted bytes → first (bytes ++ more) ≡ Err TooLarge → length (bytes ++ more) ≡ 4
size_alone bytes more e le is =
    elim (whole_of bytes more e le) [
      | inl less ↦ absurd (short_large (sym (first_short (bytes ++ more) less) ∙ is))
      | inr p ↦
          elim p.most [
            | inl zero ↦ omega (arith, p.four, ap length p.parts ∙ length-append p.size p.rest)
            | inr both ↦ absurd (never_large p.size p.rest p.four both.0 (ap first (sym p.parts) ∙ is))
          ]
    ]
  where
    never_large : (size rest : List ℕ) → length size ≡ 4 → is_no_size (size_of size) ≡ false → first (size ++ rest) ≡ Err TooLarge → ⊥
    never_large size rest four is_size e =
        let n = nat_abs (size_of size) in
        let read : in_message (read_bytes n rest) ≡ failed TooLarge = rw is_size at (sym (first_at size rest four) ∙ e) in
        elim (content_read n rest) [
          | inl short ↦ short_large (sym short.1 ∙ read)
          | inr long ↦ no_fault TooLarge (take n rest, drop n rest) (sym read ∙ long.1)
        ]

-- ---- which faults come

fault_by : (b : Bool) (n : ℕ) (rest : List ℕ) (f : FrameFault) → (refuse b TooLarge >>= λ _. in_message (read_bytes n rest)) ≡ failed f → (f ≡ Short) ⊎ (f ≡ TooLarge)
fault_by true n rest f e = inr (sym (error_is {A = List ℕ × List ℕ} TooLarge f e))
fault_by false n rest f e =
    elim (content_read n rest) [
      | inl short ↦ inl (sym (error_is {A = List ℕ × List ℕ} Short f (sym short.1 ∙ e)))
      | inr long ↦ absurd (no_fault f (take n rest, drop n rest) (sym e ∙ long.1))
    ]

pub first_faults : (bytes : List ℕ) (f : FrameFault) → first bytes ≡ Err f → (f ≡ Short) ⊎ (f ≡ TooLarge)
first_faults bytes f e =
    elim (cases_lt (length bytes) 4) [
      | inl short ↦ inl (sym (error_is {A = List ℕ × List ℕ} Short f (sym (first_short bytes short) ∙ e)))
      | inr long ↦
          let size = take 4 bytes in
          let rest = drop 4 bytes in
          let same : size ++ rest ≡ bytes = take-append-drop 4 bytes in
          let four : length size ≡ 4 = length-take-le 4 bytes long in
          fault_by (is_no_size (size_of size)) (nat_abs (size_of size)) rest f (sym (first_at size rest four) ∙ ap first same ∙ e)
    ]

-- ---- what was read is taken as it is

-- with no whole frame and no size of none, it is part of one
pub still_part : (bytes : List ℕ) → is_faulty bytes ≡ false → (stream bytes).frames ≡ [] → first bytes ≡ Err Short
still_part bytes sound none = at (first bytes) refl
  where
    some : (content : List ℕ) (rest : List (List ℕ)) → content ∷ rest ≡ [] → ⊥
    some content rest e = cc

    at_fault : (f : FrameFault) → first bytes ≡ Err f → (f ≡ Short) ⊎ (f ≡ TooLarge) → first bytes ≡ Err Short
    at_fault f e (inl is) = e ∙ ap (λ (g : FrameFault). failed {A = List ℕ × List ℕ} g) is
    at_fault f e (inr is) =
        let faulty : is_faulty bytes ≡ true = faulty_none bytes TooLarge (e ∙ ap (λ (g : FrameFault). failed {A = List ℕ × List ℕ} g) is) in absurd cc

    at : (r : First) → first bytes ≡ r → first bytes ≡ Err Short
    at (Ok x) e = absurd (some x.0 (stream x.1).frames (sym (ap (λ (s : Split). s.frames) (first_then bytes x e)) ∙ none))
    at (Err f) e = at_fault f e (first_faults bytes f e)

-- The size of no frame was read where it wanted bytes.
pub record Large (all : List ℕ) : Type 0 where
  pub large : first all ≡ Err TooLarge
  pub four : length all ≡ 4
  pub whole : kept all ≡ all

kept_whole : (all : List ℕ) → is_faulty all ≡ true → first all ≡ Err TooLarge → length all ≡ 4 → kept all ≡ all
unfolding kept
kept_whole all faulty large four =
    let rest : length (stream all).rest ≡ length all = ap (λ (s : Split). length s.rest) (first_none all TooLarge large) in
    rw faulty (take_all (length all - length (stream all).rest + 4) all (omega arith))

pub large_read : (bytes more : List ℕ) → first bytes ≡ Err Short → length more ≤ wanted bytes → is_faulty (bytes ++ more) ≡ true → Large (bytes ++ more)
large_read bytes more e le faulty = at (first (bytes ++ more)) refl
  where
    not_both : true ≡ false → ⊥
    not_both h = cc

    is_large : first (bytes ++ more) ≡ Err TooLarge → Large (bytes ++ more)
    is_large is =
        let four = size_alone bytes more e le is in
        record { large = is; four = four; whole = kept_whole (bytes ++ more) faulty is four }

    at_fault : (f : FrameFault) → first (bytes ++ more) ≡ Err f → (f ≡ Short) ⊎ (f ≡ TooLarge) → Large (bytes ++ more)
    at_fault f is (inl short) =
        let none : is_faulty (bytes ++ more) ≡ false = faulty_none (bytes ++ more) Short (is ∙ ap (λ (g : FrameFault). failed {A = List ℕ × List ℕ} g) short) in
        absurd (not_both (sym faulty ∙ none))
    at_fault f is (inr large) = is_large (is ∙ ap (λ (g : FrameFault). failed {A = List ℕ × List ℕ} g) large)

    at : (r : First) → first (bytes ++ more) ≡ r → Large (bytes ++ more)
    at (Ok x) is =
        let end : x.1 ≡ [] = nothing_behind bytes more x.0 x.1 e le is in
        let rest : (stream (bytes ++ more)).rest ≡ (stream []).rest = ap (λ (s : Split). s.rest) (first_then (bytes ++ more) x is) ∙ ap (λ (t : List ℕ). (stream t).rest) end in
        let none : is_faulty (bytes ++ more) ≡ false = faulty_so (bytes ++ more) [] rest ∙ none_faulty in
        absurd (not_both (sym faulty ∙ none))
    at (Err f) is = at_fault f is (first_faults (bytes ++ more) f is)
