-- The size of what is written, known before it is written.
use Rattle.std.specs.Prelude.{◌≡◌, ℕ, ◌-◌, ◌^◌, min, List, length, Option, Some, None}

-- the size, or the greatest number of 64 bits where it is above
abbrev pub capped : ℕ → ℕ
capped n = min n (2 ^ 64 - 1)

-- The value fits its format, and this is the size of its spelling; or it doesn't fit.
abbrev pub IsSize : Type 0 → List ℕ → Option ℕ → Type 0
IsSize fits spelling None = fits → ⊥
IsSize fits spelling (Some n) = fits × (n ≡ capped (length spelling))
