-- The program's commands, as clap sees them.
use Rattle.std.specs.Prelude.{◌≡◌, true, codes}
use Rattle.clap.specs.Words.{App, Rule, app_of, new_app, new_rule, with_rule, with_subcommand}
use Rattle.clap.specs.declared.builder.command.Command.{Command}
use Rattle.kp_command_line.specs.RunCommand.{run_app}

abbrev pub file_rule : Rule
file_rule = record (new_rule (codes "file")) { value_names = 1; required = true }

abbrev pub pack_app : App
pack_app = with_rule (new_app (codes "pack")) file_rule

abbrev pub replay_app : App
replay_app = with_rule (new_app (codes "replay")) file_rule

-- its options are known by a program of its own
abbrev pub send_app : App
send_app = new_app (codes "send")

abbrev pub bare_app : App
bare_app =
    let new = new_app (codes "kprod") in
    record new { top = record new.top { subcommand_required = true; disable_help_subcommand = true } }

abbrev pub kprod_app : App
kprod_app =
    with_subcommand (with_subcommand (with_subcommand (with_subcommand bare_app pack_app.top) replay_app.top) run_app.top)
    send_app.top

-- the program has one command more than before
abbrev pub HasAlso : App → Command → Command → Type 0
HasAlso command old new = app_of new ≡ with_subcommand (app_of old) command.top
