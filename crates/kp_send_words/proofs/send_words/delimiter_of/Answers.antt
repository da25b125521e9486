use Rattle.std.proofs.Common.{codes, refl}
use Rattle.clap.specs.Words.{found_of}
use Rattle.kp_command_line.proofs.OptionWordsLemmas.{first_none, first_some}
use Rattle.kp_send_words.proofs.send_words.delimiter_of.Goals as goal

pub returns-in-None : goal.returns-in-None
returns-in-None c =
    rw (first_none (found_of c.args.matches.now) (codes "delimiter") c.get_str.result c.get_str.ensures c.in-None.is) refl

pub returns-in-Some-byte_named : goal.returns-in-Some-byte_named
returns-in-Some-byte_named c =
    rw (first_some (found_of c.args.matches.now) (codes "delimiter") c.get_str.result c.in-Some.word c.get_str.ensures c.in-Some.is)
    c.in-Some-byte_named.ensures

pub returns-in-None-byte_named : goal.returns-in-None-byte_named
returns-in-None-byte_named c =
    (c.in-Some.word.now, first_some (found_of c.args.matches.now) (codes "delimiter") c.get_str.result c.in-Some.word c.get_str.ensures c.in-Some.is, c.in-None-byte_named.ensures)
