use Rattle.std.proofs.Common.{◌≡◌, ◌<◌, ◌==◌, false, length, sym, ◌∙◌, arith}
use Rattle.std.proofs.lemmas.Bool.Decides.{nat_tests}
use Rattle.kp_schedule.specs.Lines.{lines}
use Rattle.kp_schedule.proofs.LineLemmas.{some-lines, more-lines}
use Rattle.kp_schedule.proofs.lines.has_more_lines.Goals as goal

pub returns-then-left-eq0 : goal.returns-then-left-eq0
returns-then-left-eq0 c =
    let rest = c.loop-rest.rest.now in
    let empty : (length rest == 0) ≡ false = sym c.is_empty.ensures ∙ c.loop-rest-test.true in
    let some : 0 < length rest = grind (arith, nat_tests) in
    sym (more-lines c.args.limit c.loop-rest.left (length (lines rest)) (length (lines c.args.text.now)) c.loop-rest.invariant c.if-left-eq0.true (some-lines rest some))
