use Rattle.std.proofs.Common.{◌∙◌, ◌++◌, ◌∷◌, [], ◌+◌, ◌/◌, ◌%◌, List, ℕ, ap, sym, arith}
use Rattle.kp_wire.proofs.ReadLemmas.{then_put}
use Rattle.kp_wire.proofs.VarintLemmas.{two_groups}
use Rattle.kp_wire.proofs.varint.put_number.Goals as goal

pub returns-in_ok-reserve-clause-ok : goal.returns-in_ok-reserve-clause-ok
returns-in_ok-reserve-clause-ok c =
    let low : ℕ = c.args.n % 128 + 128 in
    let high : ℕ = c.args.n / 128 in
    then_put c.args.out.now.items _ _ (low ∷ []) (high ∷ [])
    (c.push_reserved.ensures.items ∙ ap (λ (bytes : List ℕ). bytes ++ low ∷ []) c.reserve.ensures.items) c.push_reserved-then-n-lt16384.ensures.items
    ∙ ap (λ (text : List ℕ). c.args.out.now.items ++ text) (sym (two_groups c.args.more c.args.n (omega arith) (omega arith) (omega arith)))
