use Rattle.std.proofs.Common.{◌≡◌, ap, length, arith}
use Rattle.kp_batch.proofs.SizeLemmas.{no_headers, no_headers_fit}
use Rattle.kp_batch.proofs.size.headers_size.Goals as goal

pub returns-then-is_empty-clause-told : goal.returns-then-is_empty-clause-told
returns-then-is_empty-clause-told c =
    let none : length c.args.hs.now ≡ 0 = grind (arith) in
    omega (arith, c.varint_len.ensures.value, ap length (no_headers c.args.hs.now none))

pub returns-then-is_empty-clause-fits : goal.returns-then-is_empty-clause-fits
returns-then-is_empty-clause-fits c = λ _. no_headers_fit c.args.hs.now (grind (arith))
