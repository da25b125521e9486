-- CRC-32C as division of polynomials over two values. A list of bits is a polynomial, its highest power first.
use Rattle.std.specs.Prelude.{◌≡◌, ℕ, zero, suc, ◌+◌, ◌-◌, ◌*◌, ◌/◌, ◌%◌, List, [], ◌∷◌, ◌++◌, length, take, drop, map, replicate, ◌==◌, if◌then◌else◌}
use Rattle.std.specs.List.{flat_map}

-- the lowest k bits of n, the lowest of them first
unfoldable pub bits : ℕ → ℕ → List ℕ
bits zero n = []
bits (suc k) n = n % 2 ∷ bits k (n / 2)

-- the number whose lowest bit stands first
unfoldable pub number : List ℕ → ℕ
number [] = 0
number (b ∷ bs) = b + 2 * number bs

abbrev pub inverted : List ℕ → List ℕ
inverted bs = map (λ b. 1 - b) bs

-- the sum, which is also the difference, at the front of bs
unfoldable pub plus : List ℕ → List ℕ → List ℕ
plus [] bs = bs
plus (a ∷ as') [] = []
plus (a ∷ as') (b ∷ bs) = (a + b) % 2 ∷ plus as' bs

-- 0x11EDC6F41 without its highest power, which is 1: the bits of 0x1EDC6F41, highest first
abbrev pub low_divisor : List ℕ
low_divisor = bits 32 0x82F63B78

-- 0x11EDC6F41
abbrev pub divisor : List ℕ
divisor = 1 ∷ low_divisor

-- Long division by the divisor, for so many places of the quotient. Where the leading bit is 1, the divisor
-- is subtracted there; the leading bit is then 0 and falls away.
unfoldable pub remainder : ℕ → List ℕ → List ℕ
remainder zero bs = bs
remainder (suc places) [] = []
remainder (suc places) (b ∷ bs) = remainder places (if b == 1 then plus low_divisor bs else bs)

-- the leading bits that the division met
unfoldable pub quotient : ℕ → List ℕ → List ℕ
quotient zero bs = []
quotient (suc places) [] = []
quotient (suc places) (b ∷ bs) = b ∷ quotient places (if b == 1 then plus low_divisor bs else bs)

-- the bits of the bytes, each from its lowest bit, and 32 zero bits
unfoldable pub message : List ℕ → List ℕ
message bytes = flat_map (bits 8) bytes ++ replicate 32 0

-- the message with its first 32 bits inverted
unfoldable pub dividend : List ℕ → List ℕ
dividend bytes = inverted (take 32 (message bytes)) ++ drop 32 (message bytes)

unfoldable pub crc : List ℕ → ℕ
crc bytes = number (inverted (remainder (8 * length bytes) (dividend bytes)))

-- ---- what long division is for

-- the product with the divisor: a 1 adds the divisor at its place
unfoldable pub times_divisor : List ℕ → List ℕ
times_divisor [] = replicate 32 0
times_divisor (b ∷ bs) = if b == 1 then plus divisor (0 ∷ times_divisor bs) else 0 ∷ times_divisor bs

-- The dividend is quotient times divisor plus remainder, and the remainder is of a lower degree than the divisor.
pub record Divides (dividend quotient remainder : List ℕ) : Type 0 where
  pub sum : dividend ≡ plus (replicate (length quotient) 0 ++ remainder) (times_divisor quotient)
  pub low : length remainder ≡ 32
