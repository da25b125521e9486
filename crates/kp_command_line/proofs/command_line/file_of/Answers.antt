use Rattle.std.proofs.Common.{codes, sym}
use Rattle.clap.specs.Words.{found_of}
use Rattle.kp_command_line.proofs.OptionWordsLemmas.{first_is, its_rows}
use Rattle.kp_command_line.proofs.command_line.file_of.Goals as goal

pub returns-clause-file : goal.returns-clause-file
returns-clause-file c rows is =
    let inner = found_of c.in_ok-subcommand_matches.field-0.now in
    rw (its_rows c.args.matches.now inner c.args.command.now rows c.in_ok-subcommand_matches.ensures.rows is)
    (sym (first_is inner (codes "file") c.get_str.result c.get_str.ensures))
