use Rattle.kp_schedule.proofs.WordLemmas.{fifth-word}
use Rattle.kp_schedule.proofs.words.words_of.Goals as goal

pub returns-in-Some-behind-3 : goal.returns-in-Some-behind-3
returns-in-Some-behind-3 c =
    fifth-word c.args.line.now c.in-Some.behind.now c.in-Some-behind.behind.now c.in-Some-behind-2.behind.now c.in-Some-behind-3.field-0.now
    c.cut_word.result.0.now c.cut_word-2.result.0.now c.cut_word-3.result.0.now c.cut_word-4.result.0.now
    (rw c.in-Some.is at c.cut_word.ensures) (rw c.in-Some-behind.is at c.cut_word-2.ensures) (rw c.in-Some-behind-2.is at c.cut_word-3.ensures) (rw c.in-Some-behind-3.is at c.cut_word-4.ensures)
