-- Which words are codes.
use Rattle.std.proofs.Common.{◌≡◌, ◌≢◌, ℕ, ◌<◌, ◌≤◌, ◌^◌, ℤ, pos, negsuc, ◌≤ℤ◌, refl, sym, ap, ◌∙◌, arith}
use Rattle.std.specs.Fmt.{decimal, signed_decimal}
use Rattle.std.proofs.lemmas.Fmt.{decimal_injective}
use Rattle.std.proofs.lemmas.Int.{ints}
use Rattle.kp_schedule.specs.Grammar.{IsCode}
use Rattle.kp_schedule.specs.Lines.{Text}

at_code : (z : ℤ) → pos 1 ≤ℤ z → z ≤ℤ pos 99 → (n : ℕ) × (z ≡ pos n) × (1 ≤ n) × (n ≤ 99)
at_code (pos n) low high = (n, refl, omega (arith, ints), omega (arith, ints))
at_code (negsuc n) low high = absurd (omega (arith, ints))

-- a code is a number, and written as one
pub code-number : (z : ℤ) → IsCode z → (n : ℕ) × (z ≡ pos n) × (1 ≤ n) × (n ≤ 99)
code-number z c = at_code z c.low c.high

-- the only code that is written so
pub same-code : (n : ℕ) → n < 2 ^ 64 → (word : Text) → word ≡ decimal n → (z : ℤ) → IsCode z → word ≡ signed_decimal z → z ≡ pos n
same-code n small word is z c written =
    let (m, value, low, high) = code-number z c in
    let same : decimal m ≡ decimal n = ap signed_decimal (sym value) ∙ sym written ∙ is in
    value ∙ ap pos (decimal_injective m n (omega (arith, high)) small same)

pub no-code : (word : Text) → ((n : ℕ) → n < 2 ^ 64 → word ≢ decimal n) → (z : ℤ) → IsCode z → word ≢ signed_decimal z
no-code word none z c written =
    let (m, value, low, high) = code-number z c in
    none m (omega (arith, high)) (written ∙ ap signed_decimal value)

-- neither 0 nor 46 nor a number above 99 is one
pub other-number : (n : ℕ) → n < 2 ^ 64 → (word : Text) → word ≡ decimal n → (IsCode (pos n) → ⊥) → (z : ℤ) → IsCode z → word ≢ signed_decimal z
other-number n small word is none z c written =
    let same = same-code n small word is z c written in
    none (rw (sym same) c)

pub no_code_is : (n : ℕ) → (n ≢ 0 → n ≤ 99 → n ≡ 46) → IsCode (pos n) → ⊥
no_code_is n other c =
    c.tells_nothing (ap pos (other (λ none. omega (arith, ints, none, c.low)) (omega (arith, ints, c.high))))

pub code-injective : (c d : ℤ) → IsCode c → IsCode d → signed_decimal c ≡ signed_decimal d → c ≡ d
code-injective c d h k is =
    let (n, value, low, high) = code-number c h in
    value ∙ sym (same-code n (omega (arith, high)) (signed_decimal c) (ap signed_decimal value) d k is)
