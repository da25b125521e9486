-- Which texts are decimal numbers.
use Rattle.std.proofs.Common.{◌≡◌, ◌≢◌, ℕ, ◌<◌, ◌≤◌, ◌^◌, List, length, get_or, Result, Ok, Err, arith, sym, ap, lit<, inl, inr, eq-zero-or-pos, subst, ◌∙◌}
use Rattle.std.specs.Fmt.{decimal}
use Rattle.std.specs.Str.Parse.{ParsesUnsigned, AllDigits, digits_value}
use Rattle.std.specs.Int.{IsInRange}
use Rattle.std.specs.Prelude.{OkIff}
use Rattle.std.specs.Result.{result_ok}
use Rattle.std.proofs.lemmas.Str.Parse.{IsNumeralModel, numerals_by_value, tells_digits, digit_at, parse_plain}
use Rattle.std.proofs.lemmas.Fmt.{decimal_injective, digits_decimal, first_decimal, decimal_digit, decimal_nonempty, decimal-digits_value, parse-decimal}
use Rattle.kp_schedule.specs.Grammar.{IsNode, IsNumber, Reads}

own : IsNumeralModel (AllDigits 10) (digits_value 10)
own = numerals_by_value (AllDigits 10) tells_digits

-- a decimal number's bytes are digits
pub decimal-digit_at : (n i : ℕ) → n < 2 ^ 64 → i < length (decimal n) → IsInRange 48 57 (get_or (decimal n) i 0)
decimal-digit_at n i small inside = digit_at (decimal n) i (digits_decimal own n small) inside

-- it has no sign
pub sign-not_decimal : (text : List ℕ) → get_or text 0 0 ≡ 43 → (n : ℕ) → n < 2 ^ 64 → text ≢ decimal n
sign-not_decimal text sign n small is =
    let digit = decimal-digit_at n 0 small (decimal_nonempty n small) in
    let same = ap (λ t. get_or t 0 0) is in
    absurd (omega arith)

-- and no zero before other digits
pub leading_zero-not_decimal : (text : List ℕ) → get_or text 0 0 ≡ 48 → 1 < length text → (n : ℕ) → n < 2 ^ 64 → text ≢ decimal n
leading_zero-not_decimal text zero longer n small is =
    let same = ap (λ t. get_or t 0 0) is in
    let long = ap (length {A = ℕ}) is in
    let none : n ≡ 0 = elim (eq-zero-or-pos n) [ inl none ↦ none | inr some ↦ absurd (omega (arith, first_decimal n some small)) ] in
    let short = ap (length {A = ℕ}) (decimal_digit 0 (lit< tt)) in
    absurd (omega (arith, ap (λ m. length (decimal m)) none))

-- what parsing an unsigned number says of any other text
pub parsed-decimal : {E : Type 0} (text : List ℕ) (r : Result ℕ E) → ParsesUnsigned 64 10 text r → get_or text 0 0 ≢ 43 → (get_or text 0 0 ≡ 48 → length text ≤ 1) → Reads IsNumber decimal text (result_ok r)
parsed-decimal {E} text (Ok n) parses plain alone =
    let read = parse_plain own {E = E} 64 text (Ok n) parses plain in
    let one : get_or text 0 0 ≡ 48 → length text ≡ 1 = λ zero. omega (arith, alone zero, read.0.1) in
    (rw read.1 read.0.2, rw read.1 (sym (decimal-digits_value own text read.0.0 read.0.1 one read.0.2)))
parsed-decimal {E} text (Err e) parses plain alone =
    λ n small is. let read = parse-decimal {E = E} 64 n text (Err e) small small is parses in cc

-- the numbers that are a node's
pub node-decimal : {E : Type 0} (text : List ℕ) (n : ℕ) (r : Result ℕ E) → IsNumber n × (text ≡ decimal n) → OkIff r (IsNode n) n → Reads IsNode decimal text (result_ok r)
node-decimal {E} text n (Ok m) read fits = (subst IsNode (sym fits.1) fits.0, read.1 ∙ ap decimal (sym fits.1))
node-decimal {E} text n (Err e) read large =
    λ m small is. large (subst IsNode (decimal_injective m n (omega (arith, small)) read.0 (sym is ∙ read.1)) small)
