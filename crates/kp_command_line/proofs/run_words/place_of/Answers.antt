use Rattle.std.proofs.Common.{codes, sym, inl, inr}
use Rattle.clap.specs.Words.{found_of}
use Rattle.kp_command_line.proofs.OptionWordsLemmas.{first_is, first_none, first_some}
use Rattle.kp_command_line.proofs.run_words.place_of.Goals as goal

pub returns-in-None : goal.returns-in-None
returns-in-None c =
    let found = found_of c.args.matches.now in
    (first_none found (codes "broker") c.get_str.result c.get_str.ensures c.in-None.is, sym (first_is found (codes "fault") c.get_str-in-None.result c.get_str-in-None.ensures))

pub returns-in-Some-address_of : goal.returns-in-Some-address_of
returns-in-Some-address_of c =
    (c.in-Some.word.now, first_some (found_of c.args.matches.now) (codes "broker") c.get_str.result c.in-Some.word c.get_str.ensures c.in-Some.is, c.in-Some-address_of.ensures)

pub returns-in-None-address_of : goal.returns-in-None-address_of
returns-in-None-address_of c =
    inr (inr (inl (c.in-Some.word.now, first_some (found_of c.args.matches.now) (codes "broker") c.get_str.result c.in-Some.word c.get_str.ensures c.in-Some.is, c.in-None-address_of.ensures)))
