-- What was read, as far as it is here.
use Rattle.std.specs.Prelude.{ℕ, List, [], drop, Option, Some, None}
use Rattle.kp_publish.specs.declared.input.Input.{Input}
use Rattle.kp_publish.specs.declared.input.Piece.{Piece}
use Rattle.kp_publish.specs.declared.input.Piece.TheVariants.{Bytes, End, Failed, OutOfMemory}

-- what is here and was not taken
abbrev pub rest_of : Input → List ℕ
rest_of input = drop input.taken input.piece.items

-- what comes with a piece
abbrev pub bytes_in : Option Piece → List ℕ
bytes_in (Some (Bytes bytes)) = bytes.items
bytes_in (Some End) = []
bytes_in (Some Failed) = []
bytes_in (Some OutOfMemory) = []
bytes_in None = []

-- nothing comes behind it
abbrev pub IsEnd : Option Piece → Type 0
IsEnd (Some (Bytes bytes)) = ⊥
IsEnd (Some End) = Unit {0}
IsEnd (Some Failed) = Unit {0}
IsEnd (Some OutOfMemory) = ⊥
IsEnd None = ⊥
