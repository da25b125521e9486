-- The options of a command, as clap sees them.
use Rattle.std.specs.Prelude.{◌≡◌, ℕ, Some, true, false, [], ◌∷◌}
use Rattle.clap.specs.Words.{App, Rule, Text, app_of, new_rule, with_rule}
use Rattle.clap.specs.declared.builder.action.ArgAction.TheVariants.{Append, SetTrue}
use Rattle.clap.specs.declared.builder.command.Command.{Command}
use Rattle.clap.specs.declared.builder.command.Command.TheViews.{out-Command as fields_of}
use Rattle.clap.specs.declared.builder.value_parser.ValueParser.TheVariants.{Unsigned}

abbrev pub text_rule : Text → Rule
text_rule name = record (new_rule name) { long = Some name; value_names = 1 }

-- a text that has to be said
abbrev pub required_rule : Text → Rule
required_rule name = record (text_rule name) { required = true }

-- a text that may be said again
abbrev pub repeated_rule : Text → Rule
repeated_rule name = record (text_rule name) { action = Some Append }

abbrev pub number_rule : Text → ℕ → ℕ → Rule
number_rule name least most = record (text_rule name) { parser = Some (Unsigned least most) }

abbrev pub any : ℕ
any = 18446744073709551615

-- any number, under a name of Kafka's and under a shorter one
abbrev pub setting_rule : Text → Text → Rule
setting_rule name short = record (number_rule name 0 any) { aliases = short ∷ [] }

abbrev pub flag_rule : Text → Rule
flag_rule name = record (new_rule name) { long = Some name; action = Some SetTrue }

-- no argument is also one of all commands below
abbrev pub IsLocal : Command → Type 0
IsLocal command = (fields_of command).has_globals ≡ false

-- the command has more rules than before, and none for all commands below it
pub record TakesAlso (more : App → App) (old new : Command) : Type 0 where
  pub shape : app_of new ≡ more (app_of old)
  pub local : (fields_of new).has_globals ≡ (fields_of old).has_globals

-- one rule more, and it is of this command alone
abbrev pub Adds : Rule → Command → Command → Type 0
Adds rule = TakesAlso (λ app. with_rule app rule)
