use Rattle.std.proofs.Common.{w16, arith}
use Rattle.std.proofs.lemmas.Int.{to_z_pos}
use Rattle.kp_broker.proofs.CodeLemmas.{allowed-above, spelled-code}
use Rattle.kp_broker.proofs.plan.entry.code_of.Goals as goal

pub returns-then-code-gt-MAX_CODE : goal.returns-then-code-gt-MAX_CODE
returns-then-code-gt-MAX_CODE c =
    allowed-above c.in_ok-code.code c.in_ok-code.ensures.0 c.args.text.now c.in_ok-code.ensures.1 c.if-code-gt-MAX_CODE.true

pub returns : goal.returns
returns c =
    let widened = to_z_pos w16 c.in_ok-code.code (omega arith) in
    spelled-code c.in_ok-code.code c.if-code-gt-MAX_CODE.false c.args.text.now c.in_ok-code.ensures.1 c.new.result
    (rw widened at c.new.ensures.known) (rw widened at c.new.ensures.value)
