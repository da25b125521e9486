-- Numbers in groups of seven bits are read as they are written.
use Rattle.std.proofs.Common.{◌≡◌, ℕ, zero, suc, ◌+◌, ◌-◌, ◌*◌, ◌/◌, ◌%◌, ◌^◌, ◌<◌, ◌≤◌, Bool, true, false, cond, ltb, eqb, List, [], ◌∷◌, ◌++◌, length, get_or, drop, take, ℤ, pos, negsuc, Result, Ok, refl, sym, ap, subst, ◌∙◌, ◌≢◌, append_assoc, arith, inl, inr}
use Rattle.std.specs.Prelude.{FitsSigned}
use mir.Val.{hbits}
use Rattle.std.specs.Int.{Width, w32, w64}
use Rattle.std.proofs.lemmas.Bool.{ltb-false, ltb-true, lt-ltb, le-ltb, eqb-true, eqb-false}
use Rattle.std.proofs.Math.Dec.{eqb-suc-zero}
use Rattle.std.proofs.lemmas.Bool.Decides.{nat_tests}
use Rattle.std.proofs.Math.ListN.{set}
use Rattle.std.proofs.lemmas.List.{take_rest, take_more_set}
use Rattle.kp_wire.specs.declared.fault.WireFault.{WireFault}
use Rattle.kp_wire.specs.declared.fault.WireFault.TheVariants.{TooLarge, NotShortest}
use Rattle.kp_wire.specs.Varint.{room, groups, read_groups, zigzag, unzigzag, variable, varint, varlong}
use Rattle.kp_wire.proofs.CodecLemmas.{IsExact}
use Rattle.kp_wire.proofs.ReadLemmas.{IsBytes, IsBytes-rest, Takes, bind_ok, no_fault, ok_is, chosen}

pub room_more : (more top : ℕ) → 0 < more → room more top ≡ 128 * room (more - 1) top
unfolding room
room_more zero top h = absurd (omega arith)
room_more (suc more) top h = let e : suc more - 1 ≡ more = omega arith in rw e refl

pub room_none : (more top : ℕ) → more ≡ 0 → room more top ≡ top + 1
unfolding room
room_none zero top h = refl
room_none (suc more) top h = absurd (omega arith)

room_some : (more top : ℕ) → 0 < room more top
unfolding room
room_some zero top = omega arith
room_some (suc more) top = omega (arith, room_some more top)

pub room_least : (more top : ℕ) → 0 < more → 128 ≤ room more top
room_least more top h = omega (arith, room_more more top h, room_some (more - 1) top)

pub ruleset room_laws = (room_more, room_none, room_least)

pub unzigzag-zigzag : (z : ℤ) → unzigzag (zigzag z) ≡ z
unzigzag-zigzag (pos n) = let e : 2 * n % 2 ≡ 0 = omega arith in let f : 2 * n / 2 ≡ n = omega arith in rw (e, f) refl
unzigzag-zigzag (negsuc n) = let e : (2 * n + 1) % 2 ≡ 1 = omega arith in let f : (2 * n + 1) / 2 ≡ n = omega arith in rw (e, f) refl

pub zigzag-unzigzag : (n : ℕ) → zigzag (unzigzag n) ≡ n
zigzag-unzigzag n = folds (eqb (n % 2) 0) refl
  where
    folds : (b : Bool) → eqb (n % 2) 0 ≡ b → zigzag (cond b (pos (n / 2)) (negsuc (n / 2))) ≡ n
    folds true e = omega (arith, eqb-true _ _ e)
    folds false e = omega (arith, eqb-false _ _ e)

-- ---- writing

pub groups_last : (more n : ℕ) → n < 128 → groups more n ≡ n ∷ []
unfolding groups
groups_last zero n h = refl
groups_last (suc more) n h = rw (lt-ltb n 128 h) refl

pub groups_more : (more n : ℕ) → 0 < more → 128 ≤ n → groups more n ≡ (n % 128 + 128) ∷ groups (more - 1) (n / 128)
unfolding groups
groups_more zero n g h = absurd (omega arith)
groups_more (suc more) n g h = let e : suc more - 1 ≡ more = omega arith in rw (le-ltb n 128 h, e) refl

pub length-groups_more : (more n : ℕ) → 0 < more → 128 ≤ n → length (groups more n) ≡ length (groups (more - 1) (n / 128)) + 1
length-groups_more more n g h = rw (groups_more more n g h) (omega arith)

pub length-groups_last : (more n : ℕ) → n < 128 → length (groups more n) ≡ 1
length-groups_last more n h = rw (groups_last more n h) refl

pub length-groups_none : (more n : ℕ) → more ≡ 0 → length (groups more n) ≡ 1
unfolding groups
length-groups_none zero n h = refl
length-groups_none (suc more) n h = absurd (omega arith)

pub groups_some : (more n : ℕ) → 0 < length (groups more n)
unfolding groups
groups_some zero n = omega arith
groups_some (suc more) n = some (ltb n 128) (groups more (n / 128))
  where
    some : (b : Bool) (gs : List ℕ) → 0 < length (cond b (n ∷ []) ((n % 128 + 128) ∷ gs))
    some true gs = omega arith
    some false gs = omega arith

-- what the loop has written, one group more
pub groups_step : (buffer : List ℕ) (len left high more n : ℕ) → len < length buffer → 0 < left → 128 ≤ high → take len buffer ++ groups left high ≡ groups more n
    → take (len + 1) (set buffer len (high % 128 + 128)) ++ groups (left - 1) (high / 128) ≡ groups more n
groups_step buffer len left high more n room g h e =
    rw (take_more_set buffer len (high % 128 + 128) room) (append_assoc (take len buffer) ((high % 128 + 128) ∷ []) (groups (left - 1) (high / 128))
    ∙ ap (λ (x : List ℕ). take len buffer ++ x) (sym (groups_more left high g h)) ∙ e)

pub groups_end : (buffer : List ℕ) (len left high more n : ℕ) → len < length buffer → high < 128 → take len buffer ++ groups left high ≡ groups more n
    → take (len + 1) (set buffer len high) ≡ groups more n
groups_end buffer len left high more n room h e = take_more_set buffer len high room ∙ ap (λ (x : List ℕ). take len buffer ++ x) (sym (groups_last left high h)) ∙ e

-- ---- reading

abbrev read_as : ℕ → List ℕ → Result (ℕ × List ℕ) WireFault
read_as n rest = Ok (n, rest)

last_takes : (more b n : ℕ) (bytes rest : List ℕ) → b < 128 → read_as b bytes ≡ read_as n rest → IsBytes bytes → (n < 128) × Takes (b ∷ bytes) (groups more n) rest
last_takes more b n bytes rest lt e fits =
    subst (λ (x : ℕ × List ℕ). (x.0 < 128) × Takes (b ∷ bytes) (groups more x.0) x.1) (ok_is (b, bytes) (n, rest) e)
    (lt, record { parts = rw (groups_last more b lt) refl; rest_fits = fits })

-- what is read is spelled so
pub groups_takes : (more top : ℕ) (bytes : List ℕ) (n : ℕ) (rest : List ℕ) → top < 128 → IsBytes bytes → read_groups more top bytes ≡ Ok (n, rest) → (n < room more top) × Takes bytes (groups more n) rest
unfolding read_groups
groups_takes more top [] n rest small fits e = absurd cc
groups_takes zero top (b ∷ bytes) n rest small fits e =
    elim (chosen (ltb top b) _ _ _ e) [
      | inl too ↦ absurd (no_fault TooLarge (n, rest) too.1)
      | inr ok ↦ let le : b ≤ top = ltb-false _ _ ok.0 in
          let t = last_takes zero b n bytes rest (omega arith) ok.1 (IsBytes-rest b bytes fits) in
          (let here : b ≡ n = ap (λ (x : ℕ × List ℕ). x.0) (ok_is (b, bytes) (n, rest) ok.1) in omega (arith, room_none zero top refl), t.1)
    ]
groups_takes (suc more) top (b ∷ bytes) n rest small fits e =
    elim (chosen (ltb b 128) _ _ _ e) [
      | inl one ↦ let t = last_takes (suc more) b n bytes rest (ltb-true _ _ one.0) one.1 (IsBytes-rest b bytes fits) in
          (omega (arith, t.0, room_least (suc more) top (omega arith)), t.1)
      | inr further ↦ let a = bind_ok (read_groups more top bytes) _ (n, rest) further.1 in
          elim (chosen (eqb a.0.0 0) _ _ _ a.2) [
            | inl none ↦ absurd (no_fault NotShortest (n, rest) none.1)
            | inr ok ↦
                let h = groups_takes more top bytes a.0.0 a.0.1 small (IsBytes-rest b bytes fits) a.1 in
                let ge : 128 ≤ b = ltb-false _ _ further.0 in
                let lt : b < 256 = fits 0 in
                let some : a.0.0 ≢ 0 = eqb-false _ _ ok.0 in
                let m = b - 128 + 128 * a.0.0 in
                let low : m % 128 + 128 ≡ b = omega arith in
                let high : m / 128 ≡ a.0.0 = omega arith in
                let spelled : groups (suc more) m ≡ b ∷ groups more a.0.0 = groups_more (suc more) m (omega arith) (omega arith) ∙ (let e : suc more - 1 ≡ more = omega arith in rw (low, high, e) refl) in
                let here : Takes (b ∷ bytes) (groups (suc more) m) a.0.1 = record { parts = rw spelled (ap (λ (x : List ℕ). b ∷ x) h.1.parts); rest_fits = h.1.rest_fits } in
                let fit : m < room (suc more) top = let r = room_more (suc more) top (omega arith) in (let e : suc more - 1 ≡ more = omega arith in omega (arith, h.0, rw e at r)) in
                subst (λ (x : ℕ × List ℕ). (x.0 < room (suc more) top) × Takes (b ∷ bytes) (groups (suc more) x.0) x.1) (ok_is (m, a.0.1) (n, rest) ok.1) (fit, here)
          ]
    ]

-- what is spelled so is read
pub groups_again : (more top n : ℕ) (rest : List ℕ) → n < room more top → read_groups more top (groups more n ++ rest) ≡ Ok (n, rest)
unfolding read_groups groups
groups_again zero top n rest h = rw (le-ltb top n (omega (arith, room_none zero top refl))) refl
groups_again (suc more) top n rest h = split (ltb n 128) refl (groups_again more top (n / 128) rest)
  where
    split : (b : Bool) → ltb n 128 ≡ b → (n / 128 < room more top → read_groups more top (groups more (n / 128) ++ rest) ≡ Ok (n / 128, rest))
        → read_groups (suc more) top (cond b (n ∷ []) ((n % 128 + 128) ∷ groups more (n / 128)) ++ rest) ≡ Ok (n, rest)
    split true e again = rw e refl
    split false e again =
        let ge : 128 ≤ n = ltb-false _ _ e in
        let r = room_more (suc more) top (omega arith) in
        let s : suc more - 1 ≡ more = omega arith in
        let inner = again (omega (arith, h, rw s at r)) in
        let wide : ltb (n % 128 + 128) 128 ≡ false = le-ltb _ _ (omega arith) in
        let some : eqb (n / 128) 0 ≡ false = grind (arith, nat_tests) in
        let back : n % 128 + 128 - 128 + 128 * (n / 128) ≡ n = omega arith in
        rw (wide, inner, some, back) refl

-- ---- a width

-- the groups hold just the numbers of the width
pub record Holds (w : Width) (more top : ℕ) : Type 0 where
  pub small : top < 128
  pub signed : (n : ℕ) → n < room more top → FitsSigned w (unzigzag n)
  pub unsigned : (z : ℤ) → FitsSigned w z → zigzag z < room more top

-- a half that fits, below zero or not
half_fits : (w : Width) (b : Bool) (k : ℕ) → k < 2 ^ hbits w → FitsSigned w (cond b (pos k) (negsuc k))
half_fits w true k h = record { sfits = h }
half_fits w false k h = record { sfits = h }

zigzag_fits : (w : Width) (z : ℤ) → FitsSigned w z → zigzag z < 2 * 2 ^ hbits w
zigzag_fits w (pos n) h = omega (arith, h.sfits)
zigzag_fits w (negsuc n) h = omega (arith, h.sfits)

pub holds32 : Holds w32 4 0x0f
unfolding room
holds32 = record {
  small = omega arith;
  signed = λ n h. half_fits w32 (eqb (n % 2) 0) (n / 2) (omega arith);
  unsigned = zigzag_fits w32;
}

pub holds64 : Holds w64 9 0x01
unfolding room
holds64 = record {
  small = omega arith;
  signed = λ n h. half_fits w64 (eqb (n % 2) 0) (n / 2) (omega arith);
  unsigned = zigzag_fits w64;
}

pub variable_exact : (w : Width) (more top : ℕ) → Holds w more top → IsExact 0 (variable w more top)
variable_exact w more top holds = record {
  takes = λ bytes x fits e.
      let a = bind_ok (read_groups more top bytes) (λ n. Ok (unzigzag n.0, n.1)) x e in
      let t = groups_takes more top bytes a.0.0 a.0.1 holds.small fits a.1 in
      let got : ℤ × List ℕ = (unzigzag a.0.0, a.0.1) in
      subst (λ (y : ℤ × List ℕ). Takes bytes (groups more (zigzag y.0)) y.1 × FitsSigned w y.0) (ok_is got x a.2)
      (rw (zigzag-unzigzag a.0.0) t.1, holds.signed a.0.0 t.0);
  again = λ z rest fits behind. rw (groups_again more top (zigzag z) rest (holds.unsigned z fits), unzigzag-zigzag z) refl;
}

pub varint_exact : IsExact 0 varint
varint_exact = variable_exact w32 4 0x0f holds32

pub varlong_exact : IsExact 0 varlong
varlong_exact = variable_exact w64 9 0x01 holds64

-- ---- one or two groups

pub two_groups : (more n : ℕ) → 2 ≤ more → 128 ≤ n → n < 16384 → groups more n ≡ (n % 128 + 128) ∷ (n / 128) ∷ []
unfolding groups
two_groups zero n some long h = absurd (omega arith)
two_groups (suc more) n some long h = rw (le-ltb n 128 long) (ap (λ (x : List ℕ). (n % 128 + 128) ∷ x) (groups_last more (n / 128) (omega arith)))

pub read_one : (more top b : ℕ) (bytes : List ℕ) → 2 ≤ more → 1 ≤ length bytes → b ≡ get_or bytes 0 0 → b < 128
    → read_groups more top bytes ≡ Ok (b, take (length bytes - 1) (drop 1 bytes))
unfolding read_groups
read_one more top b bytes some long is h = rw (take_rest bytes 1, is) (one more bytes some long (omega (arith, is)))
  where
    one : (more : ℕ) (bytes : List ℕ) → 2 ≤ more → 1 ≤ length bytes → get_or bytes 0 0 < 128 → read_groups more top bytes ≡ Ok (get_or bytes 0 0, drop 1 bytes)
    one zero bytes some long h = absurd (omega arith)
    one (suc more) [] some long h = absurd (omega arith)
    one (suc more) (x ∷ rest) some long h = rw (lt-ltb x 128 h) refl

pub read_two : (more top n : ℕ) (bytes : List ℕ) → 2 ≤ more → 2 ≤ length bytes → n ≡ get_or bytes 0 0 - 128 + 128 * get_or bytes 1 0 → 128 ≤ get_or bytes 0 0 → 0 < get_or bytes 1 0 → get_or bytes 1 0 < 128
    → read_groups more top bytes ≡ Ok (n, take (length bytes - 2) (drop 2 bytes))
unfolding read_groups
read_two more top n bytes some long is wide not_zero low = rw (take_rest bytes 2, is) (two more bytes some long wide not_zero low)
  where
    two : (more : ℕ) (bytes : List ℕ) → 2 ≤ more → 2 ≤ length bytes → 128 ≤ get_or bytes 0 0 → 0 < get_or bytes 1 0 → get_or bytes 1 0 < 128
        → read_groups more top bytes ≡ Ok (get_or bytes 0 0 - 128 + 128 * get_or bytes 1 0, drop 2 bytes)
    two zero bytes some long wide not_zero low = absurd (omega arith)
    two (suc zero) bytes some long wide not_zero low = absurd (omega arith)
    two (suc (suc more)) [] some long wide not_zero low = absurd (omega arith)
    two (suc (suc more)) (x ∷ []) some long wide not_zero low = absurd (omega arith)
    two (suc (suc more)) (x ∷ zero ∷ rest) some long wide not_zero low = absurd (omega arith)
    two (suc (suc more)) (x ∷ suc y ∷ rest) some long wide not_zero low = rw (le-ltb x 128 wide, lt-ltb (suc y) 128 low, eqb-suc-zero y) refl

pub room_of_two : (more top : ℕ) → 2 ≤ more → 16384 ≤ room more top
room_of_two more top h = omega (arith, room_more more top (omega arith), room_least (more - 1) top (omega arith))

pub ruleset few_groups = (groups_last, two_groups)
