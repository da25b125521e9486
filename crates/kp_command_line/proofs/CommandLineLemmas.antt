-- What clap finds where something is to be done with the standard input.
use Rattle.std.proofs.Common.{◌≡◌, ◌≢◌, List, [], ◌∷◌, Option, None, Some, codes, true, get_or, refl, sym, ap, ap₂, ◌∙◌}
use Rattle.std.specs.Prelude.{option_map, Box}
use Rattle.std.specs.Box.{box_value}
use Rattle.std.proofs.lemmas.Option.{same_Some}
use Rattle.clap.specs.Words.{App, Row, Text, first_of, is_simple, subcommand_name_of, subcommand_of, subcommand_rows, subcommand_rows_of, takes}
use Rattle.clap.specs.declared.parser.matches.ArgMatches.{ArgMatches}
use Rattle.clap.specs.declared.parser.matches.ArgMatches.TheViews.{out-ArgMatches, out-SubCommand}
use Rattle.clap.specs.declared.parser.matches.SubCommand.{SubCommand}
use Rattle.clap.proofs.OnLiterals.{clap_on_literals}
use Rattle.kp_command_line.specs.CommandLine.{AskTo, AskToSend}
use Rattle.kp_command_line.specs.Commands.{kprod_app}

abbrev pub words_of : Text → Text → List Text
words_of verb program = program ∷ verb ∷ codes "-" ∷ []

-- the first word, whatever it is, is the program's name
pub words_asked : (verb : Text) (words : List Text) → AskTo verb words → (program : Text) × (words ≡ words_of verb program)
words_asked verb [] asked = cc
words_asked verb (program ∷ others) asked = (program, ap (λ (ws : List Text). program ∷ ws) asked)

abbrev rows_behind : Option (Text × List Row) → List Row
rows_behind None = []
rows_behind (Some found) = found.1

abbrev pub rows_found : Text → Text → List Row
rows_found verb program = rows_behind (subcommand_of kprod_app (words_of verb program))

-- The words are taken, and the verb is found in them with its file.
pub record IsFound (verb program : Text) : Type 0 where
  pub taken : takes kprod_app (words_of verb program) ≡ true
  pub rows : subcommand_of kprod_app (words_of verb program) ≡ Some (verb, rows_found verb program)
  pub file : first_of (codes "file") (rows_found verb program) ≡ Some (codes "-")

pub pack_found : (program : Text) → IsFound (codes "pack") program
unfolding clap_on_literals
pack_found program = record { taken = refl; rows = refl; file = refl }

pub replay_found : (program : Text) → IsFound (codes "replay") program
unfolding clap_on_literals
replay_found program = record { taken = refl; rows = refl; file = refl }

-- the same of words that ask for it
pub taken_asked : (verb : Text) (app : App) (words : List Text) (found : (program : Text) → IsFound verb program) → app ≡ kprod_app → AskTo verb words → takes app words ≡ true
taken_asked verb app words found same asked =
    let known = words_asked verb words asked in
    ap₂ takes same known.1 ∙ (found known.0).taken

pub rows_asked : (verb : Text) (app : App) (words : List Text) (found : (program : Text) → IsFound verb program) → app ≡ kprod_app → (asked : AskTo verb words)
    → subcommand_of app words ≡ Some (verb, rows_found verb (words_asked verb words asked).0)
rows_asked verb app words found same asked =
    let known = words_asked verb words asked in
    ap₂ subcommand_of same known.1 ∙ (found known.0).rows

pub is_simple_app : is_simple kprod_app ≡ true
unfolding clap_on_literals
is_simple_app = refl

-- ---- the verb that was found

name_in : {Z : Type 0} (verb : Text) (rows : List Row) (o : Option (Box SubCommand Z)) → subcommand_rows o ≡ Some (verb, rows) → option_map (λ b. (out-SubCommand (box_value b)).name.now) o ≡ Some verb
name_in verb rows None is = absurd cc
name_in verb rows (Some b) is = ap (option_map (λ (p : Text × List Row). p.0)) is

pub name_found : (m : ArgMatches) (verb : Text) (rows : List Row) → subcommand_rows_of m ≡ Some (verb, rows) → subcommand_name_of m ≡ Some verb
name_found m verb rows is = name_in verb rows (out-ArgMatches m).subcommand is

-- it is one verb
pub not_both : (name : Option Text) (one other : Text) → get_or one 0 0 ≢ get_or other 0 0 → name ≡ Some one → name ≡ Some other → ⊥
not_both name one other different first second =
    different (ap (λ (verb : Text). get_or verb 0 0) (same_Some one other (sym first ∙ second)))

-- ---- words that ask to send

pub rows_sent : (m : ArgMatches) (app : App) (words : List Text) (rows : List Row) → app ≡ kprod_app → AskToSend words rows
    → subcommand_rows_of m ≡ subcommand_of app words → subcommand_rows_of m ≡ Some (codes "send", rows)
rows_sent m app words rows same asked found = found ∙ ap (λ (a : App). subcommand_of a words) same ∙ asked.found

pub taken_sent : (app : App) (words : List Text) (rows : List Row) → app ≡ kprod_app → AskToSend words rows → takes app words ≡ true
taken_sent app words rows same asked = ap (λ (a : App). takes a words) same ∙ asked.taken
