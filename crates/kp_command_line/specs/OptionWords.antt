-- What an option says, by what clap has found for it.
use Rattle.std.specs.Prelude.{◌≡◌, ℕ, Bool, true, false, List, Option, Some, None, codes, option_map, unwrap_or}
use Rattle.std.specs.Borrow.{Bor}
use Rattle.std.specs.Str.Parse.{without_leading_plus}
use Rattle.clap.specs.Words.{Row, Text, found_of, rows_of}
use Rattle.clap.specs.declared.parser.matches.ArgMatches.{ArgMatches}
use Rattle.kp_command_line.specs.BrokerWords.{Finds, WriteNumber}

-- what clap has found for each option of a command
abbrev pub rows_in : ArgMatches → List Row
rows_in matches = rows_of (found_of matches)

-- the text writes a number of so many bits; a plus may stand first
abbrev pub Writes : ℕ → Text → ℕ → Type 0
Writes bits text number = WriteNumber bits (without_leading_plus text) number

-- the number that is said, where one is
abbrev pub IsSaid : ℕ → Option Text → Option ℕ → Type 0
IsSaid bits None said = said ≡ None
IsSaid bits (Some text) said = Finds (Writes bits text) said

-- the same, and the usual one where none is
abbrev pub IsSaidOr : ℕ → Option Text → ℕ → ℕ → Type 0
IsSaidOr bits text usual number = (said : Option ℕ) × IsSaid bits text said × (number ≡ unwrap_or said usual)

-- the text that is said, where one is
abbrev pub text_said : Option (Bor Text) → Option Text
text_said = option_map (λ text. text.now)

-- a flag that does not stand in the words is false
pub record IsFlag (text : Option Text) (flag : Bool) : Type 0 where
  pub absent : text ≡ None → flag ≡ false
  pub present : text ≡ Some (codes "true") → flag ≡ true
  pub other : text ≡ Some (codes "false") → flag ≡ false
