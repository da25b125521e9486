-- The kinds of fields of Kafka's messages, under their names in the protocol guide ("Protocol Primitive Types").
use Rattle.std.specs.Prelude.{ℕ, zero, suc, List, [], ◌∷◌, ◌++◌, length, ℤ, pos, negsuc, Option, Some, None, Ok, Err, Bool, true, false, if◌then◌else◌}
use Rattle.std.specs.Int.{w16, w32, w64}
use Rattle.std.specs.List.{flat_map, AllByRecursion}
use Rattle.kp_wire.specs.declared.fault.WireFault.{WireFault}
use Rattle.kp_wire.specs.declared.fault.WireFault.TheVariants.{Short, TooLarge, NotShortest, NotUtf8, BadLength, BadByte}
use Rattle.kp_wire.specs.Reading.{Read, ◌>>=◌}
use Rattle.kp_wire.specs.Codec.{Codec, int, sized, plain, read_many, by_length, by_nullable_length}

-- a fault that the fields below have
abbrev pub IsFieldFault : WireFault → Type 0
IsFieldFault Short = Unit {0}
IsFieldFault TooLarge = ⊥
IsFieldFault NotShortest = ⊥
IsFieldFault NotUtf8 = Unit {0}
IsFieldFault BadLength = Unit {0}
IsFieldFault BadByte = Unit {0}

abbrev pub int16 : Codec ℤ
int16 = int w16

abbrev pub int32 : Codec ℤ
int32 = int w32

abbrev pub int64 : Codec ℤ
int64 = int w64

-- ---- BOOLEAN: one byte, 0 or 1

unfoldable pub read_boolean : List ℕ → Read Bool
read_boolean [] = Err Short
read_boolean (zero ∷ rest) = Ok (false, rest)
read_boolean (suc zero ∷ rest) = Ok (true, rest)
read_boolean (suc (suc n) ∷ rest) = Err BadByte

abbrev pub boolean : Codec Bool
boolean = record { Fits = λ _. Unit {0}; spell = λ b. (if b then 1 else 0) ∷ []; read = read_boolean }

-- ---- RECORDS: bytes behind their length, an int32

unfoldable pub records : Codec (List ℕ)
records = sized int32 length plain

-- ---- ARRAY: values behind their count, an int32

unfoldable pub read_array : {A : Type 0} → (List ℕ → Read A) → List ℕ → Read (List A)
read_array read bytes = int32.read bytes >>= λ n. by_length (read_many read) n.0 n.1

unfoldable pub spell_array : {A : Type 0} → (A → List ℕ) → List A → List ℕ
spell_array spell xs = int32.spell (pos (length xs)) ++ flat_map spell xs

unfoldable pub FitsArray : {A : Type 0} → (A → Type 0) → List A → Type 0
FitsArray fits xs = int32.Fits (pos (length xs)) × AllByRecursion fits xs

abbrev pub array_of : {A : Type 0} → Codec A → Codec (List A)
array_of c = record { Fits = FitsArray c.Fits; spell = spell_array c.spell; read = read_array c.read }

-- ---- the same, or the count -1 for null

unfoldable pub read_nullable_array : {A : Type 0} → (List ℕ → Read A) → List ℕ → Read (Option (List A))
read_nullable_array read bytes = int32.read bytes >>= λ n. by_nullable_length (read_many read) n.0 n.1

unfoldable pub spell_nullable_array : {A : Type 0} → (A → List ℕ) → Option (List A) → List ℕ
spell_nullable_array spell None = int32.spell (negsuc 0)
spell_nullable_array spell (Some xs) = spell_array spell xs

unfoldable pub FitsNullableArray : {A : Type 0} → (A → Type 0) → Option (List A) → Type 0
FitsNullableArray fits None = Unit {0}
FitsNullableArray fits (Some xs) = FitsArray fits xs

abbrev pub nullable_array_of : {A : Type 0} → Codec A → Codec (Option (List A))
nullable_array_of c = record {
  Fits = FitsNullableArray c.Fits;
  spell = spell_nullable_array c.spell;
  read = read_nullable_array c.read;
}
