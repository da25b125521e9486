-- What words ask for.
use Rattle.std.specs.Prelude.{◌≡◌, Some, List, [], ◌∷◌, true, drop, codes}
use Rattle.clap.specs.Words.{Row, Text, subcommand_of, takes}
use Rattle.kp_command_line.specs.Commands.{kprod_app}
use Rattle.kp_command_line.specs.declared.command_line.Command.{Command}
use Rattle.kp_command_line.specs.declared.command_line.Command.TheVariants.{Pack, Replay, Run, Send}

-- The words behind the program's name ask for this to be done with the standard input.
abbrev pub AskTo : Text → List Text → Type 0
AskTo verb words = drop 1 words ≡ verb ∷ codes "-" ∷ []

abbrev pub AskToPackInput : List Text → Type 0
AskToPackInput words = AskTo (codes "pack") words

abbrev pub AskToReplayInput : List Text → Type 0
AskToReplayInput words = AskTo (codes "replay") words

-- Clap takes the words, which are those of `send`, and finds this for its options.
pub record AskToSend (words : List Text) (rows : List Row) : Type 0 where
  pub taken : takes kprod_app words ≡ true
  pub found : subcommand_of kprod_app words ≡ Some (codes "send", rows)

abbrev pub Packs : Text → Command → Type 0
Packs file (Pack given) = given.now ≡ file
Packs file (Replay given) = ⊥
Packs file (Run wanted) = ⊥
Packs file Send = ⊥

abbrev pub Replays : Text → Command → Type 0
Replays file (Replay given) = given.now ≡ file
Replays file (Pack given) = ⊥
Replays file (Run wanted) = ⊥
Replays file Send = ⊥

abbrev pub Sends : Command → Type 0
Sends Send = Unit {0}
Sends (Pack given) = ⊥
Sends (Replay given) = ⊥
Sends (Run wanted) = ⊥
