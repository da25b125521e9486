-- Which texts are codes that a plan may name.
use Rattle.std.proofs.Common.{◌≡◌, ◌≢◌, ℕ, ◌<◌, ◌≤◌, ◌^◌, ℤ, pos, negsuc, ◌≤ℤ◌, List, Option, Some, None, IsSome, IfSome, ◌↔◌, refl, sym, ap, ◌∙◌, subst, nat_abs, arith}
use Rattle.std.specs.Fmt.{decimal, signed_decimal}
use Rattle.std.proofs.lemmas.Fmt.{decimal_injective}
use Rattle.std.proofs.lemmas.Int.{ints}
use Rattle.kp_log.specs.ErrorCode.{IsErrorCode}
use Rattle.kp_log.specs.declared.error_code.ErrorCode.{ErrorCode}
use Rattle.kp_broker.specs.Plan.{IsAllowedCode, SpelledBy, code_text}

-- ---- codes

-- a code is its number
error_prop : (number : ℤ) → IsProp (IsErrorCode number)
error_prop number = hlevel

at_number : (m n : ℤ) → m ≡ n → (h : IsErrorCode m) (k : IsErrorCode n)
    → ◌≡◌ {A = ErrorCode} (record { number = m; is_error = h }) (record { number = n; is_error = k })
at_number m n same h =
    subst (λ n. (k : IsErrorCode n) → ◌≡◌ {A = ErrorCode} (record { number = m; is_error = h }) (record { number = n; is_error = k })) same
    (λ k. ap (λ (e : IsErrorCode m). let code : ErrorCode = record { number = m; is_error = e } in code) (error_prop m h k))

pub code-number : (c d : ErrorCode) → c.number ≡ d.number → c ≡ d
code-number c d same = at_number c.number d.number same c.is_error d.is_error

-- ---- their texts

-- such a code is a number, and written as one
pub record IsWrittenAs (code : ErrorCode) (n : ℕ) : Type 0 where
  pub value : code.number ≡ pos n
  pub low : 1 ≤ n
  pub high : n ≤ 99

allowed-at : (z : ℤ) → pos 1 ≤ℤ z → z ≤ℤ pos 99 → (n : ℕ) × (z ≡ pos n) × (1 ≤ n) × (n ≤ 99)
allowed-at (pos n) low high = (n, refl, omega (arith, ints), omega (arith, ints))
allowed-at (negsuc n) low high = absurd (omega (arith, ints))

pub allowed-number : (code : ErrorCode) → IsAllowedCode code → (n : ℕ) × IsWrittenAs code n
allowed-number code a =
    let (n, value, low, high) = allowed-at code.number a.low a.high in
    (n, record { value = value; low = low; high = high })

-- the only code that is written so
pub same-number : (n : ℕ) → n < 2 ^ 64 → (text : List ℕ) → text ≡ decimal n → (code : ErrorCode) → IsAllowedCode code → text ≡ code_text code → code.number ≡ pos n
same-number n small text is code a spelled =
    let (m, w) = allowed-number code a in
    let same : decimal m ≡ decimal n = ap signed_decimal (sym w.value) ∙ sym spelled ∙ is in
    w.value ∙ ap pos (decimal_injective m n (omega (arith, w.high)) small same)

pub allowed-above : (n : ℕ) → n < 2 ^ 64 → (text : List ℕ) → text ≡ decimal n → 99 < n → (code : ErrorCode) → IsAllowedCode code → text ≢ code_text code
allowed-above n small text is above code a spelled =
    let (m, w) = allowed-number code a in
    let same : pos m ≡ pos n = sym w.value ∙ same-number n small text is code a spelled in
    absurd (omega (arith, w.high, ap nat_abs same))

pub spelled-code : (n : ℕ) → n ≤ 99 → (text : List ℕ) → text ≡ decimal n → (r : Option ErrorCode) → (IsSome r ↔ IsErrorCode (pos n)) → IfSome r (λ code. code.number ≡ pos n) → SpelledBy IsAllowedCode code_text text r
spelled-code n high text is None known value = λ code a spelled.
    let same = same-number n (omega arith) text is code a spelled in
    let some = known.1 (subst IsErrorCode same code.is_error) in
    cc
spelled-code n high text is (Some code) known value =
    let error = known.0 refl in
    let some : n ≢ 0 = λ none. error.error (ap pos none) in (
      record { low = rw value (omega (arith, ints)); high = rw value (omega (arith, ints)) },
      is ∙ ap signed_decimal (sym value),
    )
