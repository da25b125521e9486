use Rattle.std.proofs.Common.{sym}
use Rattle.clap.specs.Words.{found_of}
use Rattle.clap.proofs.WalkLemmas.{one_text-rows}
use Rattle.kp_command_line.proofs.option_words.flag_of.Goals as goal

pub returns : goal.returns
returns c =
    rw (sym (one_text-rows (found_of c.args.matches.now) c.args.name.now))
    (record { absent = c.get_flag.ensures.none; present = c.get_flag.ensures.value; other = c.get_flag.ensures.other })
