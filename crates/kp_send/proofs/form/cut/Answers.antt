use Rattle.std.proofs.Common.{◌+◌, length, refl}
use Rattle.std.proofs.lemmas.List.{take_rest}
use Rattle.kp_send.proofs.FormLemmas.{first_cut, no_cut}
use Rattle.kp_send.proofs.form.cut.Goals as goal

pub returns-in-Some : goal.returns-in-Some
returns-in-Some c =
    let line = c.args.line.now in
    let delimiter = c.args.delimiter.now in
    let at = c.in-Some.at in
    rw (take_rest line (at + length delimiter)) (first_cut delimiter line at c.in-Some.ensures.0 c.in-Some.ensures.1)

pub returns-in-None : goal.returns-in-None
returns-in-None c = (refl, no_cut c.args.delimiter.now c.args.line.now c.in-None.ensures)
