use Rattle.std.proofs.Common.{◌+◌, add-one, arith}
use Rattle.std.proofs.lemmas.Bool.{false_from_ne_true}
use Rattle.std.proofs.lemmas.List.{take_rest}
use Rattle.kp_program.proofs.LineLemmas.{lines-at, lines-nowhere}
use Rattle.kp_program.proofs.lines.cut.Goals as goal

pub returns-in-Some-clause-line : goal.returns-in-Some-clause-line
returns-in-Some-clause-line c =
    let found = c.in-Some.ensures in
    rw (take_rest c.args.bytes.now (c.in-Some.end + 1), add-one)
    (lines-at c.args.bytes.now c.in-Some.end found.0.high (λ j low. false_from_ne_true _ (found.0.before j (omega arith) low)) found.1)

pub returns-in-None-clause-line : goal.returns-in-None-clause-line
returns-in-None-clause-line c =
    lines-nowhere c.args.bytes.now c.requires (λ j low. false_from_ne_true _ (c.in-None.ensures j (omega arith) low))
