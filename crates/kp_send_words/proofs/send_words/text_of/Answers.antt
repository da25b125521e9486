use Rattle.clap.specs.Words.{found_of}
use Rattle.kp_command_line.proofs.OptionWordsLemmas.{first_none, first_some}
use Rattle.kp_send_words.proofs.send_words.text_of.Goals as goal

pub returns-in-Some : goal.returns-in-Some
returns-in-Some c =
    first_some (found_of c.args.matches.now) c.args.name.now c.get_str.result c.in-Some.text c.get_str.ensures c.in-Some.is

pub returns-in-None : goal.returns-in-None
returns-in-None c = first_none (found_of c.args.matches.now) c.args.name.now c.get_str.result c.get_str.ensures c.in-None.is
