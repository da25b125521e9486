-- The words of a line.
use Rattle.std.specs.Borrow.{Bor}
use Rattle.std.specs.Prelude.{List, [], ◌∷◌, ◌==◌, Option, Some, None}
use Rattle.std.specs.List.{slice_split}
use Rattle.kp_schedule.specs.Lines.{Text}
use Rattle.kp_schedule.specs.declared.words.Words.{Words}
use Rattle.kp_schedule.specs.declared.words.Words.TheVariants.{One, Two, Three, Four}

-- Between two words stands one blank.
abbrev pub words : Text → List Text
words line = slice_split (λ b. b == 32) line

-- the words of what stands behind a blank, if one does
abbrev pub words_behind : Option (Bor Text) → List Text
words_behind None = []
words_behind (Some rest) = words rest.now

abbrev pub texts : Words → List Text
texts (One a) = a.now ∷ []
texts (Two a b) = a.now ∷ b.now ∷ []
texts (Three a b c) = a.now ∷ b.now ∷ c.now ∷ []
texts (Four a b c d) = a.now ∷ b.now ∷ c.now ∷ d.now ∷ []
