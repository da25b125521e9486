-- Kafka's hash of keys, MurmurHash2 of 32 bits (Austin Appleby), as arithmetic modulo 2 ^ 32 over words.
use Rattle.std.specs.Prelude.{ℕ, ◌+◌, ◌*◌, ◌/◌, ◌%◌, ◌^◌, List, [], ◌∷◌, length, bit_xor}
use Rattle.std.specs.List.{fold}

-- each whole group of four bytes as a number, the low byte first
unfoldable pub words : List ℕ → List ℕ
words (a ∷ b ∷ c ∷ d ∷ rest) = (a + 2 ^ 8 * b + 2 ^ 16 * c + 2 ^ 24 * d) ∷ words rest
words bytes = []

-- the none to three bytes behind the last whole group
unfoldable pub left : List ℕ → List ℕ
left (a ∷ b ∷ c ∷ d ∷ rest) = left rest
left bytes = bytes

-- the constant of MurmurHash2 by which all is multiplied
abbrev pub multiplier : ℕ
multiplier = 0x5bd1e995

-- the product with the multiplier
unfoldable pub multiplied : ℕ → ℕ
multiplied n = n * multiplier % 2 ^ 32

-- n xored with itself shifted right by so many places
unfoldable pub folded : ℕ → ℕ → ℕ
folded places n = bit_xor n (n / 2 ^ places)

-- the hash with one more word
unfoldable pub with_word : ℕ → ℕ → ℕ
with_word hash word = bit_xor (multiplied hash) (multiplied (folded 24 (multiplied word)))

-- The hash with the bytes left: the third shifted left by 16 places, the second by 8. None left, the same hash.
unfoldable pub with_left : ℕ → List ℕ → ℕ
with_left hash (a ∷ []) = multiplied (bit_xor hash a)
with_left hash (a ∷ b ∷ []) = multiplied (bit_xor (bit_xor hash (2 ^ 8 * b)) a)
with_left hash (a ∷ b ∷ c ∷ []) = multiplied (bit_xor (bit_xor (bit_xor hash (2 ^ 16 * c)) (2 ^ 8 * b)) a)
with_left hash bytes = hash

-- the last mixing of the bits
unfoldable pub finished : ℕ → ℕ
finished hash = folded 15 (multiplied (folded 13 hash))

-- the hash of no word yet: Kafka's seed and the length
unfoldable pub start : List ℕ → ℕ
start bytes = bit_xor 0x9747b28c (length bytes % 2 ^ 32)

-- the words go into the hash in turn, then the bytes left
unfoldable pub murmur2 : List ℕ → ℕ
murmur2 bytes = finished (with_left (fold with_word (start bytes) (words bytes)) (left bytes))
