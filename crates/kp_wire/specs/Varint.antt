-- VARINT and VARLONG: a zigzag number in groups of seven bits, the low group first.
use Rattle.std.specs.Prelude.{ℕ, zero, suc, ◌+◌, ◌-◌, ◌*◌, ◌/◌, ◌%◌, List, [], ◌∷◌, ℤ, pos, negsuc, Ok, Err, nat_lt, ◌==◌, if◌then◌else◌, FitsSigned}
use Rattle.std.specs.Int.{Width, w32, w64}
use Rattle.kp_wire.specs.declared.fault.WireFault.TheVariants.{Short, TooLarge, NotShortest}
use Rattle.kp_wire.specs.Reading.{Read, ◌>>=◌}
use Rattle.kp_wire.specs.Codec.{Codec}

-- 0, -1, 1, -2, .. are 0, 1, 2, 3, ..
abbrev pub zigzag : ℤ → ℕ
zigzag (pos n) = 2 * n
zigzag (negsuc n) = 2 * n + 1

abbrev pub unzigzag : ℕ → ℤ
unzigzag n = if n % 2 == 0 then pos (n / 2) else negsuc (n / 2)

-- The low seven bits first, and 128 added to each group that isn't the last; at most more + 1 groups.
unfoldable pub groups : ℕ → ℕ → List ℕ
groups zero n = n ∷ []
groups (suc more) n = if nat_lt n 128 then n ∷ [] else (n % 128 + 128) ∷ groups more (n / 128)

-- The first byte below 128 is the last; so is one behind which no more may stand, and that is at most top.
-- A number whose last group is 0 has a shorter form.
unfoldable pub read_groups : ℕ → ℕ → List ℕ → Read ℕ
read_groups more top [] = Err Short
read_groups zero top (b ∷ rest) = if nat_lt top b then Err TooLarge else Ok (b, rest)
read_groups (suc more) top (b ∷ rest) =
    if nat_lt b 128 then Ok (b, rest)
    else (read_groups more top rest >>= λ high.
    if high.0 == 0 then Err NotShortest else Ok (b - 128 + 128 * high.0, high.1))

-- a signed number in at most more + 1 groups, of which the last possible is at most top
abbrev pub variable : Width → ℕ → ℕ → Codec ℤ
variable w more top = record {
  Fits = FitsSigned w;
  spell = λ z. groups more (zigzag z);
  read = λ bytes. read_groups more top bytes >>= λ n. Ok (unzigzag n.0, n.1);
}

abbrev pub varint : Codec ℤ
varint = variable w32 4 0x0f

abbrev pub varlong : Codec ℤ
varlong = variable w64 9 0x01

-- how many numbers have at most more + 1 groups of which the last possible is at most top
unfoldable pub room : ℕ → ℕ → ℕ
room zero top = top + 1
room (suc more) top = 128 * room more top
