-- The words of a line, and what they are made of.
use Rattle.std.proofs.Common.{◌≡◌, ◌<◌, ◌≤◌, eqb, [], ◌∷◌, length, sym, ap, ◌∙◌, arith}
use Rattle.std.specs.List.{position_or_len, before_first, after_first}
use Rattle.std.proofs.lemmas.List.Sums.{fails_before_first}
use Rattle.std.proofs.lemmas.List.Splits.{slice_split_first, slice_split_none, length-slice_split}
use Rattle.kp_schedule.specs.Words.{words}
use Rattle.kp_schedule.specs.Lines.{Text}

-- ---- the first word

pub words-cut : (line word behind : Text) → position_or_len (λ b. eqb b 32) line < length line → word ≡ before_first (λ b. eqb b 32) line → behind ≡ after_first (λ b. eqb b 32) line → words line ≡ word ∷ words behind
words-cut line word behind inside front back =
    slice_split_first (λ b. eqb b 32) line 0 inside ∙ (λ i. sym front i ∷ words (sym back i))

pub words-alone : (line : Text) → position_or_len (λ b. eqb b 32) line ≡ length line → words line ≡ line ∷ []
words-alone line none =
    slice_split_none (λ b. eqb b 32) line (λ k d inside. fails_before_first (λ b. eqb b 32) line k d (omega (arith, none)))

-- each line has a word
pub some-words : (line : Text) → 1 ≤ length (words line)
some-words line = omega (arith, length-slice_split (λ b. eqb b 32) line)

-- a line that goes on behind its fourth word has more
pub fifth-word : (line r1 r2 r3 r4 a b c d : Text) → words line ≡ a ∷ words r1 → words r1 ≡ b ∷ words r2 → words r2 ≡ c ∷ words r3 → words r3 ≡ d ∷ words r4 → 4 < length (words line)
fifth-word line r1 r2 r3 r4 a b c d w1 w2 w3 w4 =
    omega (arith, ap length w1, ap length w2, ap length w3, ap length w4, some-words r4)
