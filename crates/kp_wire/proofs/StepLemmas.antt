-- Places of the division go over sums, so the low byte decides what is added.
use Rattle.std.proofs.Common.{◌≡◌, ℕ, zero, suc, ◌+◌, ◌*◌, ◌/◌, ◌%◌, ◌<◌, cond, eqb, refl, sym, ap, ◌∙◌, arith}
use Rattle.std.specs.Prelude.{bit_xor}
use Rattle.std.specs.Int.Bits.{xor_assoc, xor_self, xor_disjoint, and_shifted}
use Rattle.std.proofs.lemmas.Nat.{xor_comm}
use Rattle.kp_wire.specs.Register.{step, step_times}
use Rattle.kp_wire.proofs.ChecksumLemmas.{xor_low, xor_high}

abbrev P : ℕ
P = 0x82F63B78

-- the state after a place, by its lowest bit
abbrev chosen_step : ℕ → ℕ → ℕ
chosen_step bit half = cond (eqb bit 1) (bit_xor half P) half

pub swap_last : (a b c : ℕ) → bit_xor (bit_xor a b) c ≡ bit_xor (bit_xor a c) b
swap_last a b c = xor_assoc a b c ∙ ap (bit_xor a) (xor_comm b c) ∙ sym (xor_assoc a c b)

cancel : (a b c : ℕ) → bit_xor (bit_xor a c) (bit_xor b c) ≡ bit_xor a b
cancel a b c = xor_assoc a c (bit_xor b c) ∙ ap (bit_xor a) (ap (bit_xor c) (xor_comm b c) ∙ sym (xor_assoc c c b) ∙ ap (λ (x : ℕ). bit_xor x b) (xor_self c))

-- bits 0 and 1, each with each
over_sum : (i j m n : ℕ) → i < 2 → j < 2 → chosen_step ((i + j) % 2) (bit_xor m n) ≡ bit_xor (chosen_step i m) (chosen_step j n)
over_sum zero zero m n h k = refl
over_sum zero (suc zero) m n h k = xor_assoc m n P
over_sum (suc zero) zero m n h k = swap_last m n P
over_sum (suc zero) (suc zero) m n h k = sym (cancel m n P)
over_sum zero (suc (suc j)) m n h k = absurd (omega arith)
over_sum (suc zero) (suc (suc j)) m n h k = absurd (omega arith)
over_sum (suc (suc i)) j m n h k = absurd (omega arith)

step-xor : (a b : ℕ) → step (bit_xor a b) ≡ bit_xor (step a) (step b)
step-xor a b = ap (λ (x : ℕ). chosen_step x (bit_xor a b / 2)) (xor_low a b) ∙ ap (chosen_step ((a % 2 + b % 2) % 2)) (xor_high a b) ∙ over_sum (a % 2) (b % 2) (a / 2) (b / 2) (omega arith) (omega arith)

pub steps-xor : (k a b : ℕ) → step_times k (bit_xor a b) ≡ bit_xor (step_times k a) (step_times k b)
unfolding step_times
steps-xor zero a b = refl
steps-xor (suc k) a b = ap (step_times k) (step-xor a b) ∙ steps-xor k (step a) (step b)

step_even : (n : ℕ) → step (2 * n) ≡ n
step_even n = let e : 2 * n % 2 ≡ 0 = omega arith in let f : 2 * n / 2 ≡ n = omega arith in rw (e, f) refl

-- eight places of a number whose low byte is 0
pub high_part : (q : ℕ) → step_times 8 (q * 256) ≡ q
unfolding step_times
high_part q =
    let e : q * 256 ≡ 2 * (2 * (2 * (2 * (2 * (2 * (2 * (2 * q))))))) = omega arith in
    ap (step_times 8) e ∙ rw (step_even (2 * (2 * (2 * (2 * (2 * (2 * (2 * q))))))), step_even (2 * (2 * (2 * (2 * (2 * (2 * q)))))), step_even (2 * (2 * (2 * (2 * (2 * q))))), step_even (2 * (2 * (2 * (2 * q)))), step_even (2 * (2 * (2 * q))), step_even (2 * (2 * q)), step_even (2 * q), step_even q) refl

-- the low byte and the rest share no bit
pub apart : (b m : ℕ) → b < 256 → b + 256 * m ≡ bit_xor (m * 256) b
apart b m h = let e : b + 256 * m ≡ m * 256 + b = omega arith in e ∙ sym (xor_disjoint (m * 256) b (and_shifted m 8 b (omega arith)))

parts : (x : ℕ) → x ≡ bit_xor (x / 256 * 256) (x % 256)
parts x = let e : x ≡ x % 256 + 256 * (x / 256) = omega arith in e ∙ apart (x % 256) (x / 256) (omega arith)

pub by_low_byte : (x : ℕ) → step_times 8 x ≡ bit_xor (x / 256) (step_times 8 (x % 256))
by_low_byte x = ap (step_times 8) (parts x) ∙ steps-xor 8 (x / 256 * 256) (x % 256) ∙ ap (λ (y : ℕ). bit_xor y (step_times 8 (x % 256))) (high_part (x / 256))
