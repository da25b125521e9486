use Rattle.std.proofs.Common.{lit<}
use Rattle.std.proofs.lemmas.Str.Pattern.{split_once_first}
use Rattle.kp_schedule.proofs.WordLemmas.{words-cut, words-alone}
use Rattle.kp_schedule.proofs.words.cut_word.Goals as goal

pub returns-in-Some : goal.returns-in-Some
returns-in-Some c =
    let cut = rw c.in-Some.is at (split_once_first 32 c.args.line.now c.split_once.result c.split_once.ensures.cases (lit< tt)) in
    words-cut c.args.line.now c.in-Some.word.now c.in-Some.behind.now cut.0 cut.1 cut.2

pub returns-in-None : goal.returns-in-None
returns-in-None c =
    let none = rw c.in-None.is at (split_once_first 32 c.args.line.now c.split_once.result c.split_once.ensures.cases (lit< tt)) in
    words-alone c.args.line.now none
