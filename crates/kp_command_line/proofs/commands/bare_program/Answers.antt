use Rattle.std.proofs.Common.{ap, ◌∙◌, true}
use Rattle.clap.specs.Words.{App}
use Rattle.clap.specs.Simple.{app_of_fields}
use Rattle.clap.specs.declared.builder.command.Command.{Command}
use Rattle.clap.specs.declared.builder.command.Command.TheOpen.{Command-F}
use Rattle.kp_command_line.proofs.commands.bare_program.Goals as goal

-- the settings of the program
abbrev strict : App → App
strict a = record a { top = record a.top { subcommand_required = true; disable_help_subcommand = true } }

abbrev requiring : Command-F Command → Command-F Command
requiring f = record f { subcommand_required = true }

abbrev without_help : Command-F Command → Command-F Command
without_help f = record f { disable_help_subcommand = true }

pub returns : goal.returns
returns c =
    let required = c.subcommand_required.ensures ∙ ap requiring c.about.ensures in
    let settled = c.disable_help_subcommand.ensures ∙ ap without_help required in
    ap app_of_fields settled ∙ ap strict c.new.ensures.app
