-- Formats, and how they are put together from formats.
use Rattle.std.specs.Prelude.{◌≡◌, ℕ, zero, suc, ◌<◌, ◌^◌, List, [], ◌∷◌, ◌++◌, length, take, drop, ℤ, pos, negsuc, Option, Some, None, Ok, Err, nat_lt, if◌then◌else◌, FitsSigned}
use mir.Val.{bits}
use Rattle.std.specs.Int.{Width, to_be_bytes, from_be_bytes, cast_unsigned, cast_signed, byte_len}
use Rattle.std.specs.List.{flat_map, AllByRecursion}
use Rattle.std.specs.Str.{IsUtf8, is_utf8}
use Rattle.kp_wire.specs.declared.fault.WireFault.TheVariants.{Short, NotUtf8, BadLength}
use Rattle.kp_wire.specs.Reading.{Read, ◌>>=◌}

-- Which values have a spelling, the spelling, and how a value is read from the front of bytes, with the first fault.
pub record Codec (A : Type 0) : Type 1 where
  pub Fits : A → Type 0
  pub spell : A → List ℕ
  pub read : List ℕ → Read A

-- ---- fields of a fixed number of bytes

-- so many bytes as they are
abbrev pub read_bytes : ℕ → List ℕ → Read (List ℕ)
read_bytes n bytes = if nat_lt (length bytes) n then Err Short else Ok (take n bytes, drop n bytes)

-- an unsigned number, high byte first
abbrev pub number : Width → Codec ℕ
number w = record {
  Fits = λ n. n < 2 ^ bits w;
  spell = to_be_bytes w;
  read = λ bytes. read_bytes (byte_len w) bytes >>= λ x. Ok (from_be_bytes w x.0, x.1);
}

-- a signed number, high byte first
abbrev pub int : Width → Codec ℤ
int w = record {
  Fits = FitsSigned w;
  spell = λ z. to_be_bytes w (cast_unsigned w z);
  read = λ bytes. (number w).read bytes >>= λ n. Ok (cast_signed w n.0, n.1);
}

-- ---- formats from formats

-- one field, and then another
abbrev pub pair : {A B : Type 0} → Codec A → Codec B → Codec (A × B)
pair c d = record {
  Fits = λ x. c.Fits x.0 × d.Fits x.1;
  spell = λ x. c.spell x.0 ++ d.spell x.1;
  read = λ bytes. c.read bytes >>= λ x. d.read x.1 >>= λ y. Ok ((x.0, y.0), y.1);
}

-- the same fields, of values that are made from them
abbrev pub made : {A B : Type 0} → (A → B) → (B → A) → Codec A → Codec B
made make parts c = record {
  Fits = λ b. c.Fits (parts b);
  spell = λ b. c.spell (parts b);
  read = λ bytes. c.read bytes >>= λ x. Ok (make x.0, x.1);
}

-- What was read ends where `after` bytes are left or more.
abbrev pub ends_before : {A : Type 0} → ℕ → Read A → Read A
ends_before after (Ok x) = if nat_lt (length x.1) after then Err BadLength else Ok x
ends_before after (Err fault) = Err fault

-- a field of something behind which `after` bytes stand, so that it ends before them
abbrev pub within : {A : Type 0} → ℕ → Codec A → Codec A
within after c = record {
  Fits = c.Fits;
  spell = c.spell;
  read = λ bytes. ends_before after (c.read bytes);
}

-- so many values, one after the other
unfoldable pub read_many : {A : Type 0} → (List ℕ → Read A) → ℕ → List ℕ → Read (List A)
read_many read zero bytes = Ok ([], bytes)
read_many read (suc n) bytes = read bytes >>= λ x. read_many read n x.1 >>= λ xs. Ok (x.0 ∷ xs.0, xs.1)

-- so many values, behind those that are there
abbrev pub read_more : {A : Type 0} → (List ℕ → Read A) → List A → ℕ → List ℕ → Read (List A)
read_more read front n bytes = read_many read n bytes >>= λ x. Ok (front ++ x.0, x.1)

abbrev pub many : {A : Type 0} → Codec A → ℕ → Codec (List A)
many c n = record {
  Fits = λ xs. (length xs ≡ n) × AllByRecursion c.Fits xs;
  spell = flat_map c.spell;
  read = read_many c.read n;
}

-- so many bytes
abbrev pub plain : ℕ → Codec (List ℕ)
plain n = record { Fits = λ s. length s ≡ n; spell = λ s. s; read = read_bytes n }

-- so many bytes of UTF-8
abbrev pub utf8 : ℕ → Codec (List ℕ)
utf8 n = record {
  Fits = λ s. (length s ≡ n) × IsUtf8 s;
  spell = λ s. s;
  read = λ bytes. read_bytes n bytes >>= λ x. if is_utf8 x.0 then Ok x else Err NotUtf8;
}

-- ---- lengths and counts

-- what stands behind a length
unfoldable pub by_length : {A : Type 0} → (ℕ → List ℕ → Read A) → ℤ → List ℕ → Read A
by_length read (pos n) bytes = read n bytes
by_length read (negsuc n) bytes = Err BadLength

-- what stands behind a length that is -1 for null
unfoldable pub by_nullable_length : {A : Type 0} → (ℕ → List ℕ → Read A) → ℤ → List ℕ → Read (Option A)
by_nullable_length read (pos n) bytes = read n bytes >>= λ x. Ok (Some x.0, x.1)
by_nullable_length read (negsuc zero) bytes = Ok (None, bytes)
by_nullable_length read (negsuc (suc n)) bytes = Err BadLength

-- a value behind its length
abbrev pub sized : {A : Type 0} → Codec ℤ → (A → ℕ) → (ℕ → Codec A) → Codec A
sized len size part = record {
  Fits = λ a. len.Fits (pos (size a)) × (part (size a)).Fits a;
  spell = λ a. len.spell (pos (size a)) ++ (part (size a)).spell a;
  read = λ bytes. len.read bytes >>= λ n. by_length (λ k. (part k).read) n.0 n.1;
}

abbrev pub FitsIfSome : {A : Type 0} → Codec ℤ → (A → ℕ) → (ℕ → Codec A) → Option A → Type 0
FitsIfSome len size part None = len.Fits (negsuc 0)
FitsIfSome len size part (Some a) = (sized len size part).Fits a

abbrev pub spell_nullable : {A : Type 0} → Codec ℤ → (A → ℕ) → (ℕ → Codec A) → Option A → List ℕ
spell_nullable len size part None = len.spell (negsuc 0)
spell_nullable len size part (Some a) = (sized len size part).spell a

-- the same, or null
abbrev pub nullable_sized : {A : Type 0} → Codec ℤ → (A → ℕ) → (ℕ → Codec A) → Codec (Option A)
nullable_sized len size part = record {
  Fits = FitsIfSome len size part;
  spell = spell_nullable len size part;
  read = λ bytes. len.read bytes >>= λ n. by_nullable_length (λ k. (part k).read) n.0 n.1;
}

-- values behind their count
abbrev pub array : {A : Type 0} → Codec ℤ → Codec A → Codec (List A)
array len c = sized len length (many c)
