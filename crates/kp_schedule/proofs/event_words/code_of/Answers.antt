use Rattle.std.proofs.Common.{◌≡◌, ◌≢◌, ◌≤◌, arith}
use Rattle.kp_schedule.proofs.CodeLemmas.{other-number, no_code_is}
use Rattle.kp_schedule.proofs.event_words.code_of.Goals as goal

pub returns-then-code-eq0 : goal.returns-then-code-eq0
returns-then-code-eq0 c =
    let other : c.in_ok-code.code ≢ 0 → c.in_ok-code.code ≤ 99 → c.in_ok-code.code ≡ 46 = λ some few. grind (arith, c.then-code-eq0.either) in
    other-number c.in_ok-code.code c.in_ok-code.ensures.0 c.args.word.now c.in_ok-code.ensures.1 (no_code_is c.in_ok-code.code other)
