-- Places of the division over several bytes at once: a table for each distance.
use Rattle.std.proofs.Common.{◌≡◌, ℕ, zero, suc, ◌+◌, ◌*◌, ◌/◌, ◌%◌, ◌^◌, ◌<◌, ◌≤◌, List, [], ◌∷◌, length, get_or, refl, sym, ap, ◌∙◌, arith}
use Rattle.std.specs.Prelude.{bit_xor, drop}
use Rattle.std.specs.List.{fold}
use Rattle.std.specs.Int.Bits.{xor_zero_r, xor_assoc}
use Rattle.std.proofs.lemmas.Nat.{xor_comm}
use Rattle.kp_wire.specs.Register.{step, step_times, byte_step}
use Rattle.kp_wire.proofs.ChecksumLemmas.{AreBytes}
use Rattle.kp_wire.proofs.StepLemmas.{steps-xor, high_part, swap_last, apart}

pub steps-sum : (j k s : ℕ) → step_times (j + k) s ≡ step_times k (step_times j s)
unfolding step_times
steps-sum zero k s = let e : 0 + k ≡ k = omega arith in rw e refl
steps-sum (suc j) k s = let e : suc j + k ≡ suc (j + k) = omega arith in rw e (steps-sum j k (step s))

steps-zero : (k : ℕ) → step_times k 0 ≡ 0
unfolding step_times
steps-zero zero = refl
steps-zero (suc k) = steps-zero k

-- the number whose lowest byte stands first
unfoldable pub low_first : List ℕ → ℕ
low_first [] = 0
low_first (b ∷ bs) = b + 256 * low_first bs

-- eight places take the lowest byte in
one_byte : (s b m : ℕ) → b < 256 → step_times 8 (bit_xor s (b + 256 * m)) ≡ bit_xor (byte_step s b) m
one_byte s b m h =
    ap (λ (x : ℕ). step_times 8 (bit_xor s x)) (apart b m h)
    ∙ ap (step_times 8) (sym (xor_assoc s (m * 256) b) ∙ swap_last s (m * 256) b)
    ∙ steps-xor 8 (bit_xor s b) (m * 256)
    ∙ ap (bit_xor (byte_step s b)) (high_part m)

-- the bytes at once, and all their places behind them
at_once : (s : ℕ) (bs : List ℕ) → AreBytes bs → fold byte_step s bs ≡ step_times (8 * length bs) (bit_xor s (low_first bs))
unfolding low_first step_times
at_once s [] fits = sym (xor_zero_r s)
at_once s (b ∷ bs) fits =
    let e : 8 * length (b ∷ bs) ≡ 8 + 8 * length bs = omega arith in
    at_once (byte_step s b) bs fits.1
    ∙ ap (step_times (8 * length bs)) (sym (one_byte s b (low_first bs) fits.0))
    ∙ sym (steps-sum 8 (8 * length bs) (bit_xor s (b + 256 * low_first bs)))
    ∙ ap (λ (n : ℕ). step_times n (bit_xor s (b + 256 * low_first bs))) (sym e)

-- each byte by its distance from the end, and n places more
unfoldable pub sliced : ℕ → List ℕ → ℕ
sliced n [] = 0
sliced n (b ∷ bs) = bit_xor (step_times (8 * suc (length bs) + n) b) (sliced n bs)

sliced_is : (n : ℕ) (bs : List ℕ) → AreBytes bs → step_times (8 * length bs + n) (low_first bs) ≡ sliced n bs
unfolding low_first sliced
sliced_is n [] fits = steps-zero (8 * 0 + n)
sliced_is n (b ∷ bs) fits =
    let k : ℕ = 8 * length bs + n in
    let e : 8 * suc (length bs) + n ≡ 8 + k = omega arith in
    let m : ℕ = low_first bs in
    let split : step_times (8 + k) (b + 256 * m) ≡ bit_xor (step_times (8 + k) b) (step_times k m) =
    ap (step_times (8 + k)) (apart b m fits.0 ∙ xor_comm (m * 256) b)
    ∙ steps-xor (8 + k) b (m * 256)
    ∙ ap (bit_xor (step_times (8 + k) b)) (steps-sum 8 k (m * 256) ∙ ap (step_times k) (high_part m)) in
    ap (λ (x : ℕ). step_times x (b + 256 * m)) e ∙ split
    ∙ ap (λ (x : ℕ). bit_xor (step_times x b) (step_times k m)) (sym e)
    ∙ ap (bit_xor (step_times (8 * suc (length bs) + n) b)) (sliced_is n bs fits.1)

-- a number's lowest bytes
unfoldable pub digits : ℕ → ℕ → List ℕ
digits zero m = []
digits (suc k) m = m % 256 ∷ digits k (m / 256)

digits_are : (k m : ℕ) → m < 256 ^ k → m ≡ low_first (digits k m)
unfolding digits low_first
digits_are zero m h = omega arith
digits_are (suc k) m h =
    let q : 256 ^ suc k ≡ 256 * 256 ^ k = grind arith in
    omega (arith, digits_are k (m / 256) (omega (arith, q)))

digits_fit : (k m : ℕ) → AreBytes (digits k m)
unfolding digits
digits_fit zero m = tt
digits_fit (suc k) m = (omega arith, digits_fit k (m / 256))

length-digits : (k m : ℕ) → length (digits k m) ≡ k
unfolding digits
length-digits zero m = refl
length-digits (suc k) m = ap suc (length-digits k (m / 256))

to_the_right : (a b c d e f g h : ℕ) → bit_xor (bit_xor (bit_xor (bit_xor (bit_xor (bit_xor (bit_xor a b) c) d) e) f) g) h
    ≡ bit_xor a (bit_xor b (bit_xor c (bit_xor d (bit_xor e (bit_xor f (bit_xor g (bit_xor h 0)))))))
to_the_right a b c d e f g h =
    let ab = bit_xor a b in
    let abc = bit_xor ab c in
    let abcd = bit_xor abc d in
    let abcde = bit_xor abcd e in
    let abcdef = bit_xor abcde f in
    ap (bit_xor (bit_xor abcdef g)) (sym (xor_zero_r h))
    ∙ xor_assoc abcdef g (bit_xor h 0)
    ∙ xor_assoc abcde f (bit_xor g (bit_xor h 0))
    ∙ xor_assoc abcd e (bit_xor f (bit_xor g (bit_xor h 0)))
    ∙ xor_assoc abc d (bit_xor e (bit_xor f (bit_xor g (bit_xor h 0))))
    ∙ xor_assoc ab c (bit_xor d (bit_xor e (bit_xor f (bit_xor g (bit_xor h 0)))))
    ∙ xor_assoc a b (bit_xor c (bit_xor d (bit_xor e (bit_xor f (bit_xor g (bit_xor h 0))))))

digits-eight : (m : ℕ) → digits 8 m ≡ m % 256 ∷ m / 256 % 256 ∷ m / 65536 % 256 ∷ m / 16777216 % 256 ∷ m / 4294967296 % 256 ∷ m / 1099511627776 % 256 ∷ m / 281474976710656 % 256 ∷ m / 72057594037927936 % 256 ∷ []
unfolding digits
digits-eight m =
    let two : m / 256 / 256 ≡ m / 65536 = omega arith in
    let three : m / 65536 / 256 ≡ m / 16777216 = omega arith in
    let four : m / 16777216 / 256 ≡ m / 4294967296 = omega arith in
    let five : m / 4294967296 / 256 ≡ m / 1099511627776 = omega arith in
    let six : m / 1099511627776 / 256 ≡ m / 281474976710656 = omega arith in
    let seven : m / 281474976710656 / 256 ≡ m / 72057594037927936 = omega arith in
    rw (two, three, four, five, six, seven) refl

-- eight bytes at once, each by its own table, and n places more
pub eight_places : (n m : ℕ) → m < 2 ^ 64
    → bit_xor (bit_xor (bit_xor (bit_xor (bit_xor (bit_xor (bit_xor (step_times (64 + n) (m % 256)) (step_times (56 + n) (m / 256 % 256))) (step_times (48 + n) (m / 65536 % 256))) (step_times (40 + n) (m / 16777216 % 256))) (step_times (32 + n) (m / 4294967296 % 256))) (step_times (24 + n) (m / 1099511627776 % 256))) (step_times (16 + n) (m / 281474976710656 % 256))) (step_times (8 + n) (m / 72057594037927936 % 256))
    ≡ step_times (64 + n) m
unfolding sliced
eight_places n m h =
    let e : 8 * length (digits 8 m) + n ≡ 64 + n = omega (arith, length-digits 8 m) in
    let whole : sliced n (digits 8 m) ≡ step_times (64 + n) m =
    sym (sliced_is n (digits 8 m) (digits_fit 8 m)) ∙ ap (λ (k : ℕ). step_times k (low_first (digits 8 m))) e ∙ ap (step_times (64 + n)) (sym (digits_are 8 m h)) in
    to_the_right (step_times (64 + n) (m % 256)) (step_times (56 + n) (m / 256 % 256)) (step_times (48 + n) (m / 65536 % 256)) (step_times (40 + n) (m / 16777216 % 256)) (step_times (32 + n) (m / 4294967296 % 256)) (step_times (24 + n) (m / 1099511627776 % 256)) (step_times (16 + n) (m / 281474976710656 % 256)) (step_times (8 + n) (m / 72057594037927936 % 256))
    ∙ ap (sliced n) (sym (digits-eight m)) ∙ whole

-- the register after eight bytes is that after all their places
pub eight_bytes : (s : ℕ) (xs : List ℕ) → 8 ≤ length xs → AreBytes xs
    → fold byte_step (step_times 64 (bit_xor s (low_first (get_or xs 0 0 ∷ get_or xs 1 0 ∷ get_or xs 2 0 ∷ get_or xs 3 0 ∷ get_or xs 4 0 ∷ get_or xs 5 0 ∷ get_or xs 6 0 ∷ get_or xs 7 0 ∷ [])))) (drop 8 xs) ≡ fold byte_step s xs
eight_bytes s ([]) h fits = absurd (omega arith)
eight_bytes s (a ∷ []) h fits = absurd (omega arith)
eight_bytes s (a ∷ b ∷ []) h fits = absurd (omega arith)
eight_bytes s (a ∷ b ∷ c ∷ []) h fits = absurd (omega arith)
eight_bytes s (a ∷ b ∷ c ∷ d ∷ []) h fits = absurd (omega arith)
eight_bytes s (a ∷ b ∷ c ∷ d ∷ e ∷ []) h fits = absurd (omega arith)
eight_bytes s (a ∷ b ∷ c ∷ d ∷ e ∷ f ∷ []) h fits = absurd (omega arith)
eight_bytes s (a ∷ b ∷ c ∷ d ∷ e ∷ f ∷ g ∷ []) h fits = absurd (omega arith)
eight_bytes s (a ∷ b ∷ c ∷ d ∷ e ∷ f ∷ g ∷ h ∷ xs) long fits =
    ap (λ (x : ℕ). fold byte_step x xs) (sym (at_once s (a ∷ b ∷ c ∷ d ∷ e ∷ f ∷ g ∷ h ∷ []) (fits.0, (fits.1.0, (fits.1.1.0, (fits.1.1.1.0, (fits.1.1.1.1.0, (fits.1.1.1.1.1.0, (fits.1.1.1.1.1.1.0, (fits.1.1.1.1.1.1.1.0, tt))))))))))
