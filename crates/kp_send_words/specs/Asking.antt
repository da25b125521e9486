-- What words ask to be sent.
use Rattle.std.specs.Prelude.{◌≡◌, ◌⊎◌, Some, List, true, codes}
use Rattle.clap.specs.Words.{App, Row, Text, kind_of, subcommand_of, takes, with_subcommand}
use Rattle.clap.specs.declared.error.Error.{Error}
use Rattle.clap.specs.declared.error.kind.ErrorKind.TheVariants.{OutOfMemory}
use Rattle.kp_command_line.specs.Commands.{bare_app}
use Rattle.kp_send_words.specs.SendCommand.{send_app}
use Rattle.kp_send_words.specs.SendWords.{IsRefusedSend}

-- the program, as far as it sends
abbrev pub sending_app : App
sending_app = with_subcommand bare_app send_app.top

-- Clap takes the words, which are those of `send`, and finds this for its options.
pub record AskToSend (words : List Text) (rows : List Row) : Type 0 where
  pub taken : takes sending_app words ≡ true
  pub found : subcommand_of sending_app words ≡ Some (codes "send", rows)

-- memory is wanting, or these options can't be meant
abbrev pub RefusesSend : List Row → Error → Type 0
RefusesSend rows error = (kind_of error ≡ OutOfMemory) ⊎ IsRefusedSend rows
