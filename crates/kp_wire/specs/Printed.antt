-- A value as text.
use Rattle.std.specs.Prelude.{ℕ, ◌/◌, ◌%◌, Bool, false, List, [], ◌∷◌, ◌==◌, ◌&&◌, not, nat_le, if◌then◌else◌}
use Rattle.std.specs.List.{flat_map}
use Rattle.std.specs.Fmt.{digit_glyph}

-- a byte that stands for itself: from 0x20 to 0x7e, but the backslash
abbrev pub is_plain : ℕ → Bool
is_plain b = nat_le 0x20 b && nat_le b 0x7e && not (b == 0x5c)

-- a backslash, an x and two lower-case hexadecimal digits
abbrev pub escaped : ℕ → List ℕ
escaped b = 0x5c ∷ 0x78 ∷ digit_glyph false (b / 16) ∷ digit_glyph false (b % 16) ∷ []

abbrev pub printed_byte : ℕ → List ℕ
printed_byte b = if is_plain b then b ∷ [] else escaped b

abbrev pub printed : List ℕ → List ℕ
printed bytes = flat_map printed_byte bytes
