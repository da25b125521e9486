use Rattle.std.proofs.Common.{sym}
use Rattle.std.specs.Str.Parse.{ExplainsUnsignedError, HasUnsignedDigitsIfOk, ParsesUnsigned}
use Rattle.clap.specs.Words.{found_of, one_text}
use Rattle.clap.proofs.WalkLemmas.{one_text-rows}
use Rattle.kp_command_line.proofs.OptionWordsLemmas.{said_by}
use Rattle.kp_command_line.proofs.option_words.number_of.Goals as goal

pub returns : goal.returns
returns c =
    let found = found_of c.args.matches.now in
    rw (sym (one_text-rows found c.args.name.now))
    (said_by 64 (λ text r. ParsesUnsigned 64 10 text r × ExplainsUnsignedError 10 text r × HasUnsignedDigitsIfOk text r)
    (one_text found c.args.name.now) c.get_one.result c.get_one.ensures.none c.get_one.ensures.value (λ text r read. read.0))
