-- What the word for a delimiter names, and what it does not name.
use Rattle.std.proofs.Common.{◌≡◌, ◌≢◌, ℕ, [], ◌∷◌, Option, Some, None, get_or, ap, sym, ◌∙◌, arith}
use Rattle.clap.specs.Words.{Text}
use Rattle.kp_command_line.specs.BrokerWords.{Finds}
use Rattle.kp_send_words.specs.DelimiterWords.{NamesByte, NamesEscape, WritesByte, carriage_return, escape, hexadecimal, itself, newline, nul, tab}

-- what begins with one character begins with no other, and what follows it is known
first_of_both : (x y : ℕ) (word xs ys : Text) → word ≡ x ∷ xs → word ≡ y ∷ ys → x ≡ y
first_of_both x y word xs ys one other = ap (λ (t : Text). get_or t 0 0) (sym one ∙ other)

rest_of_both : (x : ℕ) (word xs ys : Text) → word ≡ x ∷ xs → word ≡ x ∷ ys → xs ≡ ys
rest_of_both x word xs ys one other = cc

-- what is no letter of an escape, and begins with no x (120)
pub no_letter : (rest : Text) (byte : ℕ) → rest ≢ 110 ∷ [] → rest ≢ 114 ∷ [] → rest ≢ 116 ∷ [] → rest ≢ 48 ∷ []
    → ((digits : Text) → rest ≢ 120 ∷ digits) → ¬ (NamesEscape rest byte)
no_letter rest byte n r t zero none (newline is _) = n is
no_letter rest byte n r t zero none (carriage_return is _) = r is
no_letter rest byte n r t zero none (tab is _) = t is
no_letter rest byte n r t zero none (nul is _) = zero is
no_letter rest byte n r t zero none (hexadecimal digits is written) = none digits is

no_digits : (rest digits : Text) (byte : ℕ) → rest ≡ 120 ∷ digits → ¬ (WritesByte digits byte) → ¬ (NamesEscape rest byte)
no_digits rest digits byte begun none (newline is _) = omega (arith, first_of_both 120 110 rest digits [] begun is)
no_digits rest digits byte begun none (carriage_return is _) = omega (arith, first_of_both 120 114 rest digits [] begun is)
no_digits rest digits byte begun none (tab is _) = omega (arith, first_of_both 120 116 rest digits [] begun is)
no_digits rest digits byte begun none (nul is _) = omega (arith, first_of_both 120 48 rest digits [] begun is)
no_digits rest digits byte begun none (hexadecimal other is written) =
    none (rw (rest_of_both 120 rest digits other begun is) written)

-- an x and digits name what the digits write
pub by_digits : (rest digits : Text) (answer : Option ℕ) → rest ≡ 120 ∷ digits → Finds (WritesByte digits) answer → Finds (NamesEscape rest) answer
by_digits rest digits (Some byte) begun written = hexadecimal digits begun written
by_digits rest digits None begun none = λ byte. no_digits rest digits byte begun (none byte)

-- a word that is no byte alone names what its escape names, and nothing where it has none
pub no_escape : (word : Text) (byte : ℕ) → word ≢ byte ∷ [] → ((rest : Text) → word ≢ 92 ∷ rest) → ¬ (NamesByte word byte)
no_escape word byte more none (itself is) = more is
no_escape word byte more none (escape rest is named) = none rest is

no_such_escape : (word rest : Text) (byte : ℕ) → word ≢ byte ∷ [] → word ≡ 92 ∷ rest → ¬ (NamesEscape rest byte) → ¬ (NamesByte word byte)
no_such_escape word rest byte more begun none (itself is) = more is
no_such_escape word rest byte more begun none (escape other is named) =
    none (rw (rest_of_both 92 word rest other begun is) named)

pub by_escape : (word rest : Text) (answer : Option ℕ) → ((byte : ℕ) → word ≢ byte ∷ []) → word ≡ 92 ∷ rest → Finds (NamesEscape rest) answer → Finds (NamesByte word) answer
by_escape word rest (Some byte) more begun named = escape rest begun named
by_escape word rest None more begun none = λ byte. no_such_escape word rest byte (more byte) begun (none byte)
