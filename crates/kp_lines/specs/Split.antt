-- Bytes split at a delimiter.
use Rattle.std.specs.Prelude.{◌≡◌, ◌≢◌, ℕ, List, [], ◌∷◌, ◌++◌, All, Option, Some, None}
use Rattle.std.specs.List.{flat_map}

-- the delimiter does not stand there
abbrev pub HasNone : (delimiter : ℕ) → List ℕ → Type 0
HasNone delimiter bytes = All (λ b. b ≢ delimiter) bytes

-- The bytes are these lines, each with a delimiter behind it, and then a rest; and there is no other delimiter.
pub record SplitsAt (delimiter : ℕ) (bytes : List ℕ) (lines : List (List ℕ)) (rest : List ℕ) : Type 0 where
  pub spelled : bytes ≡ flat_map (λ line. line ++ delimiter ∷ []) lines ++ rest
  pub none_in_lines : All (HasNone delimiter) lines
  pub none_in_rest : HasNone delimiter rest

-- what stands before the first delimiter, and what behind it, where there is one
abbrev pub Cuts : (delimiter : ℕ) → List ℕ → Option (List ℕ × List ℕ) → Type 0
Cuts delimiter bytes (Some parts) = (bytes ≡ parts.0 ++ delimiter ∷ parts.1) × HasNone delimiter parts.0
Cuts delimiter bytes None = HasNone delimiter bytes
