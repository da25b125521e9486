-- Which byte the word for a delimiter names, and what the word for a header is.
use Rattle.std.specs.Prelude.{◌≡◌, ℕ, ◌<◌, ◌==◌, ◌&&◌, Bool, [], ◌∷◌, ◌++◌, length, codes, nat_lt}
use Rattle.std.specs.List.{position_or_len}
use Rattle.std.specs.Net.Grammar.{IsNumber}
use Rattle.clap.specs.Words.{Text}

-- two hexadecimal digits, which write a byte
pub record WritesByte (digits : Text) (byte : ℕ) : Type 0 where
  pub two : length digits ≡ 2
  pub number : IsNumber 16 digits byte
  pub fits : byte < 256

-- what stands behind a backslash names this byte
pub data NamesEscape (rest : Text) (byte : ℕ) : Type 0 where
  newline : rest ≡ codes "n" → byte ≡ 10 → NamesEscape rest byte
  carriage_return : rest ≡ codes "r" → byte ≡ 13 → NamesEscape rest byte
  tab : rest ≡ codes "t" → byte ≡ 9 → NamesEscape rest byte
  nul : rest ≡ codes "0" → byte ≡ 0 → NamesEscape rest byte
  hexadecimal : (digits : Text) → rest ≡ codes "x" ++ digits → WritesByte digits byte → NamesEscape rest byte

-- the word names this byte: the one that it has, which is a character of ASCII, or an escape
pub data NamesByte (word : Text) (byte : ℕ) : Type 0 where
  itself : word ≡ byte ∷ [] → NamesByte word byte
  escape : (rest : Text) → word ≡ codes "\\" ++ rest → NamesEscape rest byte → NamesByte word byte

-- where the first `=` (61) of the word stands
abbrev pub equals_place : Text → ℕ
equals_place word = position_or_len (λ c. c == 61) word

-- the word is a name that is not empty, `=` and a value
abbrev pub is_header : Text → Bool
is_header word = nat_lt 0 (equals_place word) && nat_lt (equals_place word) (length word)
