-- What clap's getters read is what an option says.
use Rattle.std.proofs.Common.{◌≡◌, ◌==◌, ℕ, List, [], ◌∷◌, Option, Some, None, Result, Ok, Err, Bor, arith, eqb-true, length, map, option_map, true, unwrap_or, refl, ap, sym, ◌∙◌}
use Rattle.std.proofs.lemmas.Option.{same_Some}
use Rattle.std.specs.Str.Parse.{ParsesUnsigned}
use Rattle.clap.specs.declared.parser.matches.ArgMatches.{ArgMatches}
use Rattle.clap.specs.declared.parser.matches.Found.{Found}
use Rattle.clap.specs.Words.{ReadsOne, Row, Text, all_of, first_of, first_value, matched_of, raw_values, rows_of, subcommand_rows_of}
use Rattle.clap.proofs.WalkLemmas.{first_value-rows, raw_values-rows}
use Rattle.kp_command_line.specs.OptionWords.{IsSaid}

-- what reads a number as `parse` does
pub said_by : {E : Type 0} (bits : ℕ) (gives : Text → Result ℕ E → Type 0) (text : Option Text) (r : Option ℕ)
    → (text ≡ None → r ≡ None) → ((t : Text) → text ≡ Some t → ReadsOne gives t r)
    → ((t : Text) (answer : Result ℕ E) → gives t answer → ParsesUnsigned bits 10 t answer) → IsSaid bits text r
said_by bits gives None r none some parses = none refl
said_by bits gives (Some t) (Some n) none some parses =
    let read = parses t (Ok n) (some t refl) in
    ((read.0.0, sym read.1), rw read.1 read.0.1)
said_by bits gives (Some t) None none some parses =
    let (e, read) = some t refl in
    λ n written. parses t (Err e) read (written.0.0, rw written.0.1 written.1)

-- what `get_str` answers is what the rows have first
pub first_is : (found : Found) (name : Text) (r : Option (Bor Text)) → option_map (λ s. s.now) r ≡ first_value found name
    → first_of name (rows_of found) ≡ option_map (λ s. s.now) r
first_is found name r read = sym (first_value-rows found name) ∙ sym read

pub first_none : (found : Found) (name : Text) (r : Option (Bor Text)) → option_map (λ s. s.now) r ≡ first_value found name → r ≡ None
    → first_of name (rows_of found) ≡ None
first_none found name r read none = first_is found name r read ∙ ap (option_map (λ (s : Bor Text). s.now)) none

pub first_some : (found : Found) (name : Text) (r : Option (Bor Text)) (text : Bor Text) → option_map (λ s. s.now) r ≡ first_value found name → r ≡ Some text
    → first_of name (rows_of found) ≡ Some text.now
first_some found name r text read some = first_is found name r read ∙ ap (option_map (λ (s : Bor Text). s.now)) some

now_or : (r : Option (Bor Text)) (usual : Bor Text) → (unwrap_or r usual).now ≡ unwrap_or (option_map (λ s. s.now) r) usual.now
now_or None usual = refl
now_or (Some text) usual = refl

pub first_or : (found : Found) (name : Text) (r : Option (Bor Text)) (usual text : Bor Text) → option_map (λ s. s.now) r ≡ first_value found name → text ≡ unwrap_or r usual
    → text.now ≡ unwrap_or (first_of name (rows_of found)) usual.now
first_or found name r usual text read is =
    ap (λ (b : Bor Text). b.now) is ∙ now_or r usual ∙ ap (λ (t : Option Text). unwrap_or t usual.now) (sym (first_is found name r read))

-- the matches of a subcommand have its rows
pub its_rows : (matches : ArgMatches) (found : Found) (verb : Text) (rows : List Row)
    → option_map (λ p. p.1) (subcommand_rows_of matches) ≡ Some (rows_of found) → subcommand_rows_of matches ≡ Some (verb, rows) → rows ≡ rows_of found
its_rows matches found verb rows inner is =
    same_Some _ _ (sym (ap (option_map (λ (p : Text × List Row). p.1)) is) ∙ inner)

-- and what `get_strs` answers is all that they have
pub all_is : (found : Found) (name : Text) (r : Option (Bor (List (Bor Text)))) → option_map (λ s. map (λ v. v.now) s.now) r ≡ option_map raw_values (matched_of found name)
    → all_of name (rows_of found) ≡ option_map (λ s. map (λ v. v.now) s.now) r
all_is found name r read = sym (raw_values-rows found name) ∙ sym read

pub no_text : (text : Text) → (length text == 0) ≡ true → text ≡ []
no_text [] empty = refl
no_text (c ∷ text) empty =
    let none = eqb-true (length (c ∷ text)) 0 empty in
    absurd (omega (arith, none))
