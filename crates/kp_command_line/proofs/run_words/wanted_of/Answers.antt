use Rattle.std.proofs.Common.{codes}
use Rattle.clap.specs.Words.{found_of}
use Rattle.kp_command_line.proofs.OptionWordsLemmas.{first_none, first_some, its_rows}
use Rattle.kp_command_line.proofs.run_words.wanted_of.Goals as goal

pub returns-in_err-file-clause-run : goal.returns-in_err-file-clause-run
returns-in_err-file-clause-run c rows is =
    let found = found_of c.in_ok-matches.matches.now in
    rw (c.from_residual-in_err-file.ensures, its_rows c.args.matches.now found (codes "run") rows c.in_ok-matches.ensures.rows is)
    (first_none found (codes "file") c.get_str.result c.get_str.ensures c.in_err-file.was)

pub returns-in-Ok-clause-run : goal.returns-in-Ok-clause-run
returns-in-Ok-clause-run c rows is =
    let found = found_of c.in_ok-matches.matches.now in
    rw (its_rows c.args.matches.now found (codes "run") rows c.in_ok-matches.ensures.rows is)
    (record { file = first_some found (codes "file") c.get_str.result c.in_ok-file.file c.get_str.ensures c.in_ok-file.was; options = c.in-Ok.ensures })

pub returns-in-Err-clause-run : goal.returns-in-Err-clause-run
returns-in-Err-clause-run c rows is =
    rw (its_rows c.args.matches.now (found_of c.in_ok-matches.matches.now) (codes "run") rows c.in_ok-matches.ensures.rows is) c.in-Err.ensures
