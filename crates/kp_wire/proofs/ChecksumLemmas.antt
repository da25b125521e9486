-- The register's steps are places of the division.
use Rattle.std.proofs.Common.{◌≡◌, ℕ, zero, suc, ◌+◌, ◌-◌, ◌*◌, ◌/◌, ◌%◌, ◌^◌, ◌<◌, ◌≤◌, Bool, true, false, cond, eqb, List, [], ◌∷◌, ◌++◌, length, take, drop, get_or, refl, sym, ap, ◌∙◌, subst, append_assoc, arith}
use Rattle.std.specs.Prelude.{bit_xor, replicate}
use Rattle.std.specs.List.{flat_map, fold, AllByRecursion}
use Rattle.std.specs.Int.{bit_at, w32, bit_not}
use Rattle.std.specs.Int.Bits.{xor_zero_r}
use Rattle.std.proofs.lemmas.Bool.{eqb-true, eqb-false}
use Rattle.std.proofs.lemmas.Nat.{xor_lt, xor_comm, pow_pos}
use Rattle.std.proofs.lemmas.Nat.Bits.{bit_at_lowest, bit_at-suc, bit_at_xor, same_from_bits}
use Rattle.std.proofs.lemmas.List.{length-append, length-replicate}
use Rattle.std.proofs.lemmas.List.Concat.{flat_map-cons}
use Rattle.kp_wire.specs.Checksum.{bits, number, inverted, plus, low_divisor, quotient, remainder, message, dividend, crc, times_divisor, Divides}
use Rattle.kp_wire.specs.Register.{step, step_times, byte_step}
use Rattle.kp_wire.proofs.ListLemmas.{all_append, all_replicate}

-- ---- one bit of a sum

pub xor_low : (a b : ℕ) → bit_xor a b % 2 ≡ (a % 2 + b % 2) % 2
xor_low a b = sym (bit_at_lowest (bit_xor a b)) ∙ bit_at_xor a b 0 ∙ ap (λ (x : ℕ). (x + bit_at b 0) % 2) (bit_at_lowest a) ∙ ap (λ (x : ℕ). (a % 2 + x) % 2) (bit_at_lowest b)

pub xor_high : (a b : ℕ) → bit_xor a b / 2 ≡ bit_xor (a / 2) (b / 2)
xor_high a b = same_from_bits _ _ (λ i.
    sym (bit_at-suc (bit_xor a b) i) ∙ bit_at_xor a b (suc i)
    ∙ ap (λ (x : ℕ). (x + bit_at b (suc i)) % 2) (bit_at-suc a i) ∙ ap (λ (x : ℕ). (bit_at (a / 2) i + x) % 2) (bit_at-suc b i)
    ∙ sym (bit_at_xor (a / 2) (b / 2) i))

-- ---- sums of lists of bits

abbrev pub AreBits : List ℕ → Type 0
AreBits bs = AllByRecursion (λ b. b < 2) bs

length-bits : (k n : ℕ) → length (bits k n) ≡ k
unfolding bits
length-bits zero n = refl
length-bits (suc k) n = ap suc (length-bits k (n / 2))

length-plus : (a b : List ℕ) → length (plus a b) ≡ length b
unfolding plus
length-plus [] b = refl
length-plus (x ∷ a) [] = refl
length-plus (x ∷ a) (y ∷ b) = ap suc (length-plus a b)

plus_assoc : (a b c : List ℕ) → length a ≤ length b → plus a (plus b c) ≡ plus (plus a b) c
unfolding plus
plus_assoc [] b c h = refl
plus_assoc (x ∷ a) [] c h = absurd (omega arith)
plus_assoc (x ∷ a) (y ∷ b) [] h = refl
plus_assoc (x ∷ a) (y ∷ b) (z ∷ c) h =
    let head : (x + (y + z) % 2) % 2 ≡ ((x + y) % 2 + z) % 2 = omega arith in
    let tail = plus_assoc a b c (omega arith) in
    cc

bits-xor : (k a b : ℕ) → bits k (bit_xor a b) ≡ plus (bits k a) (bits k b)
unfolding bits plus
bits-xor zero a b = refl
bits-xor (suc k) a b = rw (xor_low a b, xor_high a b, bits-xor k (a / 2) (b / 2)) refl

-- a bit more changes nothing where it is 0
plus_wider : (k t : ℕ) (bs : List ℕ) → t < 2 ^ k → AreBits bs → plus (bits k t) bs ≡ plus (bits (suc k) t) bs
unfolding bits plus
plus_wider zero t [] h fits = refl
plus_wider zero t (b ∷ bs) h fits = let e : (t % 2 + b) % 2 ≡ b = omega (arith, fits.0) in rw e refl
plus_wider (suc k) t [] h fits = refl
plus_wider (suc k) t (b ∷ bs) h fits = ap (λ (x : List ℕ). (t % 2 + b) % 2 ∷ x) (plus_wider k (t / 2) bs (grind arith) fits.1)

plus_nothing : (k : ℕ) (bs : List ℕ) → AreBits bs → length bs ≡ k → plus bs (replicate k 0) ≡ bs
unfolding plus
plus_nothing zero [] fits len = refl
plus_nothing zero (b ∷ bs) fits len = absurd (omega arith)
plus_nothing (suc k) [] fits len = absurd (omega arith)
plus_nothing (suc k) (b ∷ bs) fits len = let e : (b + 0) % 2 ≡ b = omega (arith, fits.0) in rw (e, plus_nothing k bs fits.1 (omega arith)) refl

-- ---- places of the division

abbrev pub IsWord : ℕ → Type 0
IsWord s = s < 2 ^ 32

step_fits : (s : ℕ) → IsWord s → IsWord (step s)
step_fits s h = pick (eqb (s % 2) 1)
  where
    pick : (b : Bool) → IsWord (cond b (bit_xor (s / 2) 0x82F63B78) (s / 2))
    pick true = xor_lt 32 (s / 2) 0x82F63B78 (omega arith) (omega arith)
    pick false = omega arith

-- the divisor as the state sees it, subtracted or not
subtracted : (b : Bool) (t : ℕ) (bs : List ℕ) → t < 2 ^ 31 → AreBits bs → cond b (plus low_divisor (plus (bits 31 t) bs)) (plus (bits 31 t) bs) ≡ plus (bits 32 (cond b (bit_xor t 0x82F63B78) t)) bs
subtracted true t bs lt fits =
    ap (plus low_divisor) (plus_wider 31 t bs lt fits)
    ∙ plus_assoc (bits 32 0x82F63B78) (bits 32 t) bs (omega (arith, length-bits 32 0x82F63B78, length-bits 32 t))
    ∙ ap (λ (x : List ℕ). plus x bs) (sym (bits-xor 32 0x82F63B78 t) ∙ ap (bits 32) (xor_comm 0x82F63B78 t))
subtracted false t bs lt fits = plus_wider 31 t bs lt fits

-- what the leading place leaves
first_place : (s : ℕ) (bs : List ℕ) → plus (bits 32 s) (0 ∷ bs) ≡ s % 2 ∷ plus (bits 31 (s / 2)) bs
unfolding plus bits
first_place s bs = let e : (s % 2 + 0) % 2 ≡ s % 2 = omega arith in rw e refl

one_place : (n s : ℕ) (bs : List ℕ) → IsWord s → AreBits bs → remainder (suc n) (plus (bits 32 s) (0 ∷ bs)) ≡ remainder n (plus (bits 32 (step s)) bs)
unfolding remainder
one_place n s bs word fits = rw (first_place s bs) (ap (remainder n) (subtracted (eqb (s % 2) 1) (s / 2) bs (omega arith) fits))

bits_are_bits : (k n : ℕ) → AreBits (bits k n)
unfolding bits
bits_are_bits zero n = tt
bits_are_bits (suc k) n = (omega arith, bits_are_bits k (n / 2))

zeros_are_bits : (n : ℕ) → AreBits (replicate n 0)
zeros_are_bits n = all_replicate (λ b. b < 2) n 0 (omega arith)

places : (k n s : ℕ) (bs : List ℕ) → IsWord s → AreBits bs → remainder (k + n) (plus (bits 32 s) (replicate k 0 ++ bs)) ≡ remainder n (plus (bits 32 (step_times k s)) bs)
unfolding step_times
places zero n s bs word fits = let e : 0 + n ≡ n = omega arith in rw e refl
places (suc k) n s bs word fits =
    let e : suc k + n ≡ suc (k + n) = omega arith in
    rw e (one_place (k + n) s (replicate k 0 ++ bs) word (all_append (λ b. b < 2) (replicate k 0) bs (zeros_are_bits k) fits) ∙ places k n (step s) bs (step_fits s word) fits)

steps_fit : (k s : ℕ) → IsWord s → IsWord (step_times k s)
unfolding step_times
steps_fit zero s h = h
steps_fit (suc k) s h = steps_fit k (step s) (step_fits s h)

byte_step_fits : (s b : ℕ) → IsWord s → b < 256 → IsWord (byte_step s b)
byte_step_fits s b word byte = steps_fit 8 (bit_xor s b) (xor_lt 32 s b word (omega arith))

-- a byte's bits go into the state
absorbed : (j k s b : ℕ) (bs : List ℕ) → b < 2 ^ k → plus (bits (k + j) s) (bits k b ++ bs) ≡ plus (bits (k + j) (bit_xor s b)) (replicate k 0 ++ bs)
unfolding bits plus
absorbed j zero s b bs h = let e : b ≡ 0 = omega arith in rw (e, xor_zero_r s) refl
absorbed j (suc k) s b bs h =
    let e : suc k + j ≡ suc (k + j) = omega arith in
    let head : (bit_xor s b % 2 + 0) % 2 ≡ (s % 2 + b % 2) % 2 = omega (arith, xor_low s b) in
    let low : b / 2 < 2 ^ k = grind arith in
    rw (e, xor_high s b, head, absorbed j k (s / 2) (b / 2) bs low) refl

byte_places : (n s b : ℕ) (bs : List ℕ) → IsWord s → b < 256 → AreBits bs → remainder (8 + n) (plus (bits 32 s) (bits 8 b ++ bs)) ≡ remainder n (plus (bits 32 (byte_step s b)) bs)
byte_places n s b bs word byte fits =
    ap (remainder (8 + n)) (absorbed 24 8 s b bs byte) ∙ places 8 n (bit_xor s b) bs (xor_lt 32 s b word (omega arith)) fits

-- ---- all bytes

abbrev pub AreBytes : List ℕ → Type 0
AreBytes bs = AllByRecursion (λ b. b < 256) bs

pub are_bytes : (bs : List ℕ) → ((i : ℕ) → get_or bs i 0 < 256) → AreBytes bs
are_bytes [] h = tt
are_bytes (b ∷ bs) h = (h 0, are_bytes bs (λ i. h (suc i)))

message-cons : (b : ℕ) (bytes : List ℕ) → message (b ∷ bytes) ≡ bits 8 b ++ message bytes
unfolding message
message-cons b bytes = rw (flat_map-cons (bits 8) b bytes) (append_assoc (bits 8 b) (flat_map (bits 8) bytes) (replicate 32 0))

message_is_bits : (bytes : List ℕ) → AreBits (message bytes)
unfolding message
message_is_bits [] = zeros_are_bits 32
message_is_bits (b ∷ bytes) = subst AreBits (sym (message-cons b bytes)) (all_append (λ x. x < 2) (bits 8 b) (message bytes) (bits_are_bits 8 b) (message_is_bits bytes))

all_places : (s : ℕ) (bytes : List ℕ) → IsWord s → AreBytes bytes → remainder (8 * length bytes) (plus (bits 32 s) (message bytes)) ≡ bits 32 (fold byte_step s bytes)
unfolding message remainder
-- no bits to come
all_places s [] word fits = plus_nothing 32 (bits 32 s) (bits_are_bits 32 s) (length-bits 32 s)
all_places s (b ∷ bytes) word fits =
    let e : 8 * length (b ∷ bytes) ≡ 8 + 8 * length bytes = omega arith in
    let here = byte_places (8 * length bytes) s b (message bytes) word fits.0 (message_is_bits bytes) in
    rw (e, message-cons b bytes) (here ∙ all_places (byte_step s b) bytes (byte_step_fits s b word fits.0) fits.1)

-- ---- the first bits inverted, and the last

first_inverted : (k : ℕ) (bs : List ℕ) → AreBits bs → k ≤ length bs → inverted (take k bs) ++ drop k bs ≡ plus (bits k (2 ^ k - 1)) bs
unfolding plus bits
first_inverted zero bs fits le = refl
first_inverted (suc k) [] fits le = absurd (omega arith)
first_inverted (suc k) (b ∷ bs) fits le =
    let p : 2 ^ suc k ≡ 2 * 2 ^ k = grind arith in
    let some : 0 < 2 ^ k = pow_pos k in
    let low : (2 ^ suc k - 1) % 2 ≡ 1 = omega arith in
    let high : (2 ^ suc k - 1) / 2 ≡ 2 ^ k - 1 = omega arith in
    let head : (1 + b) % 2 ≡ 1 - b = omega (arith, fits.0) in
    rw (low, high, head) (ap (λ (x : List ℕ). (1 - b) ∷ x) (first_inverted k bs fits.1 (omega arith)))

last_inverted : (k s : ℕ) → s < 2 ^ k → number (inverted (bits k s)) ≡ 2 ^ k - 1 - s
unfolding number bits
last_inverted zero s h = omega arith
last_inverted (suc k) s h =
    let low : s / 2 < 2 ^ k = grind arith in
    let inner = last_inverted k (s / 2) low in
    let p : 2 ^ suc k ≡ 2 * 2 ^ k = grind arith in
    omega (arith, inner, p)

folded_fits : (s : ℕ) (bytes : List ℕ) → IsWord s → AreBytes bytes → IsWord (fold byte_step s bytes)
folded_fits s [] word fits = word
folded_fits s (b ∷ bytes) word fits = folded_fits (byte_step s b) bytes (byte_step_fits s b word fits.0) fits.1

pub crc_is : (bytes : List ℕ) → AreBytes bytes → bit_not w32 (fold byte_step 4294967295 bytes) ≡ crc bytes
unfolding crc dividend message
crc_is bytes fits =
    let long : 32 ≤ length (message bytes) = omega (arith, length-append (flat_map (bits 8) bytes) (replicate 32 0), length-replicate {A = ℕ} 32 0) in
    let start = first_inverted 32 (message bytes) (message_is_bits bytes) long in
    let word : IsWord 4294967295 = omega arith in
    let end = all_places 4294967295 bytes word fits in
    sym (ap (λ (x : List ℕ). number (inverted x)) (ap (remainder (8 * length bytes)) start ∙ end) ∙ last_inverted 32 (fold byte_step 4294967295 bytes) (folded_fits 4294967295 bytes word fits))

-- ---- long division divides

plus_comes_first : (a b c : List ℕ) → plus a (plus b c) ≡ plus b (plus a c)
unfolding plus
plus_comes_first [] b c = refl
plus_comes_first (x ∷ a) [] c = refl
plus_comes_first (x ∷ a) (y ∷ b) [] = refl
plus_comes_first (x ∷ a) (y ∷ b) (z ∷ c) =
    let head : (x + (y + z) % 2) % 2 ≡ (y + (x + z) % 2) % 2 = omega arith in
    rw (head, plus_comes_first a b c) refl

plus_twice : (a bs : List ℕ) → AreBits bs → plus a (plus a bs) ≡ bs
unfolding plus
plus_twice [] bs fits = refl
plus_twice (x ∷ a) [] fits = refl
plus_twice (x ∷ a) (b ∷ bs) fits = let e : (x + (x + b) % 2) % 2 ≡ b = omega (arith, fits.0) in rw (e, plus_twice a bs fits.1) refl

plus_are_bits : (a bs : List ℕ) → AreBits bs → AreBits (plus a bs)
unfolding plus
plus_are_bits [] bs fits = fits
plus_are_bits (x ∷ a) [] fits = tt
plus_are_bits (x ∷ a) (b ∷ bs) fits = (omega arith, plus_are_bits a bs fits.1)

-- a place of the quotient
divides_one : (bs q r : List ℕ) → AreBits bs → Divides (plus low_divisor bs) q r → Divides (1 ∷ bs) (1 ∷ q) r
unfolding plus times_divisor
divides_one bs q r fits h = record {
  sum = ap (λ (x : List ℕ). 1 ∷ x) (sym (plus_comes_first (replicate (length q) 0 ++ r) low_divisor (times_divisor q) ∙ ap (plus low_divisor) (sym h.sum) ∙ plus_twice low_divisor bs fits));
  low = h.low;
}

divides_none : (bs q r : List ℕ) → Divides bs q r → Divides (0 ∷ bs) (0 ∷ q) r
unfolding plus times_divisor
divides_none bs q r h = record { sum = ap (λ (x : List ℕ). 0 ∷ x) h.sum; low = h.low }

abbrev DividedAfter : ℕ → List ℕ → Type 0
DividedAfter places bs = Divides bs (quotient places bs) (remainder places bs)

divides_more : (t : Bool) (places b : ℕ) (bs : List ℕ) → eqb b 1 ≡ t → b < 2 → AreBits bs → length bs ≡ places + 32
    → ((cs : List ℕ) → AreBits cs → length cs ≡ places + 32 → DividedAfter places cs)
    → Divides (b ∷ bs) (b ∷ quotient places (cond t (plus low_divisor bs) bs)) (remainder places (cond t (plus low_divisor bs) bs))
divides_more true places b bs e bit fits len again =
    let one : b ≡ 1 = eqb-true b 1 e in
    let long : length (plus low_divisor bs) ≡ places + 32 = omega (arith, length-plus low_divisor bs) in
    rw one (divides_one bs _ _ fits (again (plus low_divisor bs) (plus_are_bits low_divisor bs fits) long))
divides_more false places b bs e bit fits len again =
    let none : b ≡ 0 = omega (arith, eqb-false b 1 e) in
    rw none (divides_none bs _ _ (again bs fits len))

divides : (places : ℕ) (bs : List ℕ) → AreBits bs → length bs ≡ places + 32 → DividedAfter places bs
unfolding quotient remainder times_divisor
divides zero bs fits len = record { sum = sym (plus_nothing 32 bs fits (omega arith)); low = omega arith }
divides (suc places) [] fits len = absurd (omega arith)
divides (suc places) (b ∷ bs) fits len = divides_more (eqb b 1) places b bs refl fits.0 fits.1 (omega arith) (λ cs f l. divides places cs f l)

length-message : (bytes : List ℕ) → length (message bytes) ≡ 8 * length bytes + 32
unfolding message
length-message [] = refl
length-message (b ∷ bytes) = rw (message-cons b bytes) (omega (arith, length-append (bits 8 b) (message bytes), length-bits 8 b, length-message bytes))

pub checksum_divides : (bytes : List ℕ) → DividedAfter (8 * length bytes) (dividend bytes)
unfolding dividend
checksum_divides bytes =
    let long = length-message bytes in
    let start = first_inverted 32 (message bytes) (message_is_bits bytes) (omega arith) in
    rw start (divides (8 * length bytes) (plus (bits 32 4294967295) (message bytes)) (plus_are_bits (bits 32 4294967295) (message bytes) (message_is_bits bytes)) (omega (arith, length-plus (bits 32 4294967295) (message bytes))))
