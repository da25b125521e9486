-- The lines of a text.
use Rattle.std.specs.Prelude.{ℕ, List, [], ◌∷◌, ◌==◌, if◌then◌else◌}

abbrev pub Text : Type 0
Text = List ℕ

-- lines, of which the first begins with b
abbrev pub begun_with : ℕ → List Text → List Text
begun_with b [] = (b ∷ []) ∷ []
begun_with b (first ∷ others) = (b ∷ first) ∷ others

-- Byte 10 ends a line. The last line may do without it.
abbrev pub lines : Text → List Text
lines [] = []
lines (b ∷ bs) = if b == 10 then [] ∷ lines bs else begun_with b (lines bs)
