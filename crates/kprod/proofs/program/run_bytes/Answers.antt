use Rattle.std.proofs.Common.{◌∙◌, ap, List, ℕ, map}
use Rattle.std.proofs.lemmas.Result.{on_ok_weaker}
use Rattle.std.specs.Borrow.{Bor}
use Rattle.kprod.proofs.program.run_bytes.Goals as goal

pub returns : goal.returns
returns g c =
    on_ok_weaker c.send_and_print.result
    (λ prints. record {
      sent = c.as_slice.result.now;
      are = ap (λ (sent : List (Bor (List ℕ))). map (λ line. line.now) sent) c.as_slice.ensures.value ∙ c.in_ok-lines.ensures;
      prints = prints;
    })
    c.send_and_print.ensures
