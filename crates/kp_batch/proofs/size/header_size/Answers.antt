use Rattle.std.proofs.Common.{◌≡◌, ◌+◌, ◌≤◌, length, pos, refl, ap, subst, arith}
use Rattle.std.specs.Str.{IsUtf8}
use Rattle.kp_wire.specs.Varint.{varint}
use Rattle.kp_batch.proofs.SizeLemmas.{length-header, key_is_short, value_fits, header_fits}
use Rattle.kp_batch.proofs.size.header_size.Goals as goal

pub returns-in_err-key-clause-size : goal.returns-in_err-key-clause-size
returns-in_err-key-clause-size c =
    let same = ap length c.as_str.ensures.value in
    rw c.from_residual.ensures (λ fits. absurd (omega (arith, key_is_short c.args.h.now fits, c.in_err-key.ensures.long refl, same)))

pub returns-in_err-key-clause-long : goal.returns-in_err-key-clause-long
returns-in_err-key-clause-long c = λ _.
    let same = ap length c.as_str.ensures.value in
    omega (arith, length-header c.args.h.now, c.in_err-key.ensures.long refl, same)

pub returns-in_err-value-clause-size : goal.returns-in_err-value-clause-size
returns-in_err-value-clause-size c = rw c.from_residual-in_err-value.ensures (λ fits. c.in_err-value.ensures.size (value_fits c.args.h.now fits))

pub returns-in_err-value-clause-long : goal.returns-in_err-value-clause-long
returns-in_err-value-clause-long c = λ _. omega (arith, length-header c.args.h.now, c.in_err-value.ensures.long refl)

pub returns-clause-size : goal.returns-clause-size
returns-clause-size c =
    let h = c.args.h.now in
    let key : c.in_ok-key.key ≡ length (varint.spell (pos (length h.key))) + length h.key = rw c.as_str.ensures.value at c.in_ok-key.ensures.value in
    let short : length h.key ≤ 2147483647 = omega (arith, ap length c.as_str.ensures.value, c.in_ok-key.ensures.short refl) in
    let text : IsUtf8 h.key = subst IsUtf8 c.as_str.ensures.value c.as_str.ensures.utf8 in
    (header_fits h short text c.in_ok-value.ensures.size.0, omega (arith, length-header h, key, c.in_ok-value.ensures.size.1, c.in_ok-key.ensures.few, c.in_ok-value.ensures.few))
