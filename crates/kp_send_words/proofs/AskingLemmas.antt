-- What clap finds where something is to be sent.
use Rattle.std.proofs.Common.{◌≡◌, List, Some, codes, true, refl, ap, ◌∙◌}
use Rattle.clap.specs.Words.{App, Row, Text, is_simple, subcommand_of, subcommand_rows_of, takes}
use Rattle.clap.specs.declared.parser.matches.ArgMatches.{ArgMatches}
use Rattle.clap.proofs.OnLiterals.{clap_on_literals}
use Rattle.kp_send_words.specs.Asking.{AskToSend, sending_app}

pub is_simple_app : is_simple sending_app ≡ true
unfolding clap_on_literals
is_simple_app = refl

pub rows_sent : (m : ArgMatches) (app : App) (words : List Text) (rows : List Row) → app ≡ sending_app → AskToSend words rows
    → subcommand_rows_of m ≡ subcommand_of app words → subcommand_rows_of m ≡ Some (codes "send", rows)
rows_sent m app words rows same asked found = found ∙ ap (λ (a : App). subcommand_of a words) same ∙ asked.found

pub taken_sent : (app : App) (words : List Text) (rows : List Row) → app ≡ sending_app → AskToSend words rows → takes app words ≡ true
taken_sent app words rows same asked = ap (λ (a : App). takes a words) same ∙ asked.taken
