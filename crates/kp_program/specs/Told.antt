-- Lines that tell a fault.
use Rattle.std.specs.Prelude.{ℕ, List, ◌++◌, codes, decimal}
use Rattle.kp_text.specs.Lines.{newline}

abbrev pub cannot_read_line : (file : List ℕ) → List ℕ
cannot_read_line file = codes "kprod: cannot read " ++ file ++ newline

abbrev pub numbered_line : (text : List ℕ) → (number : ℕ) → List ℕ
numbered_line text number = text ++ decimal number ++ newline
