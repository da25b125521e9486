use Rattle.std.proofs.Common.{inr}
use Rattle.std.proofs.lemmas.Result.{on_ok_weaker}
use Rattle.kprod.proofs.RunLooksLemmas.{prints_run, told_first}
use Rattle.kprod.proofs.program.run_file.Goals as goal

pub returns-in_err-checked-clause-looks : goal.returns-in_err-checked-clause-looks
returns-in_err-checked-clause-looks g c =
    told_first c.args.wanted.options c.in_err-checked.field-0.0 c.from_residual.result c.in_err-checked.ensures c.from_residual.ensures.1

pub returns-in_err-bytes-clause-looks : goal.returns-in_err-bytes-clause-looks
returns-in_err-bytes-clause-looks g c = inr (c.in_ok-checked.checked, c.in_ok-checked.ensures)

pub returns-clause-looks : goal.returns-clause-looks
returns-clause-looks g c = inr (c.in_ok-checked.checked, c.in_ok-checked.ensures)

pub returns-clause-input : goal.returns-clause-input
returns-clause-input g c = λ dash.
    let read = c.in_ok-bytes.bytes.items in
    on_ok_weaker c.run_bytes.result
    (λ printed. prints_run c.args.wanted.options c.in_ok-checked.checked (g.I.Read.remaining c.args.input.now) read
    (g.O.Write.contents c.args.out.now) (g.O.Write.contents c.run_bytes.new.out) c.in_ok-checked.ensures (c.in_ok-bytes.ensures.input dash)
    (rw c.as_slice.ensures.value at printed))
    c.run_bytes.ensures
