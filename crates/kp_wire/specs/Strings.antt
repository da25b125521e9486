-- STRING and NULLABLE_STRING: a text in UTF-8 behind its length in bytes, an int16.
use Rattle.std.specs.Prelude.{ℕ, List, length, Option}
use Rattle.std.specs.Int.{w16}
use Rattle.kp_wire.specs.Codec.{Codec, int, sized, nullable_sized, utf8}

abbrev pub string : Codec (List ℕ)
string = sized (int w16) length utf8

-- the same, or the length -1 for null
abbrev pub nullable_string : Codec (Option (List ℕ))
nullable_string = nullable_sized (int w16) length utf8
