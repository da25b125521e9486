use Rattle.std.proofs.Common.{codes}
use Rattle.clap.specs.Words.{found_of}
use Rattle.kp_command_line.proofs.OptionWordsLemmas.{its_rows}
use Rattle.kp_send_words.proofs.asking.sending_of_its.Goals as goal

pub returns-in-Some : goal.returns-in-Some
returns-in-Some c rows is =
    rw (its_rows c.args.matches.now (found_of c.in-Some.matches.now) (codes "send") rows c.in-Some.ensures.rows is) c.sending_in.ensures
