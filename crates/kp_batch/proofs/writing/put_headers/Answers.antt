use Rattle.std.proofs.Common.{◌≡◌, ◌∙◌, ◌++◌, List, ℕ, length, ap, sym, arith}
use Rattle.kp_batch.proofs.SizeLemmas.{no_headers}
use Rattle.kp_batch.proofs.writing.put_headers.Goals as goal

pub returns : goal.returns
returns c =
    let none : length c.args.hs.now ≡ 0 = grind (arith) in
    c.in_ok-put_varint.ensures.ok ∙ ap (λ (x : List ℕ). c.args.out.now.items ++ x) (sym (no_headers c.args.hs.now none))
