-- A word of the hash is a group of four bytes at the front.
use Rattle.std.proofs.Common.{◌≡◌, ℕ, ◌+◌, ◌-◌, ◌*◌, ◌^◌, ◌<◌, ◌≤◌, List, [], ◌∷◌, length, take, drop, get_or, refl, ap, arith}
use Rattle.std.specs.List.{fold}
use Rattle.std.proofs.lemmas.List.{take_rest}
use Rattle.kp_wire.specs.Hash.{words, left, with_word}

-- the number of the four bytes at the front, as `from_le_bytes` has it
abbrev pub front_word : List ℕ → ℕ
front_word s = get_or s 0 0 + get_or s 1 0 * 256 + get_or s 2 0 * 65536 + get_or s 3 0 * 16777216

pub words_front : (s : List ℕ) → 4 ≤ length s → words s ≡ front_word s ∷ words (take (length s - 4) (drop 4 s))
unfolding words
words_front [] h = absurd (omega arith)
words_front (a ∷ []) h = absurd (omega arith)
words_front (a ∷ b ∷ []) h = absurd (omega arith)
words_front (a ∷ b ∷ c ∷ []) h = absurd (omega arith)
words_front (a ∷ b ∷ c ∷ d ∷ rest) h =
    let e : a + 2 ^ 8 * b + 2 ^ 16 * c + 2 ^ 24 * d ≡ a + b * 256 + c * 65536 + d * 16777216 = omega arith in
    let all = take_rest (a ∷ b ∷ c ∷ d ∷ rest) 4 in
    rw (e, all) refl

pub left_behind : (s : List ℕ) → 4 ≤ length s → left (take (length s - 4) (drop 4 s)) ≡ left s
unfolding left
left_behind [] h = absurd (omega arith)
left_behind (a ∷ []) h = absurd (omega arith)
left_behind (a ∷ b ∷ []) h = absurd (omega arith)
left_behind (a ∷ b ∷ c ∷ []) h = absurd (omega arith)
left_behind (a ∷ b ∷ c ∷ d ∷ rest) h = ap left (take_rest (a ∷ b ∷ c ∷ d ∷ rest) 4)

pub words_none : (s : List ℕ) → length s < 4 → words s ≡ []
unfolding words
words_none [] h = refl
words_none (a ∷ []) h = refl
words_none (a ∷ b ∷ []) h = refl
words_none (a ∷ b ∷ c ∷ []) h = refl
words_none (a ∷ b ∷ c ∷ d ∷ rest) h = absurd (omega arith)

pub left_all : (s : List ℕ) → length s < 4 → left s ≡ s
unfolding left
left_all [] h = refl
left_all (a ∷ []) h = refl
left_all (a ∷ b ∷ []) h = refl
left_all (a ∷ b ∷ c ∷ []) h = refl
left_all (a ∷ b ∷ c ∷ d ∷ rest) h = absurd (omega arith)

-- the word at the front goes into the hash
pub fold_front : (s : List ℕ) (hash next : ℕ) → 4 ≤ length s → next ≡ with_word hash (front_word s)
    → fold with_word next (words (take (length s - 4) (drop 4 s))) ≡ fold with_word hash (words s)
fold_front s hash next h e = rw (words_front s h, e) refl
