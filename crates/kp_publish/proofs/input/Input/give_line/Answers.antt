use Rattle.std.proofs.Common.{◌≡◌, ◌∙◌, ◌-◌, ap, arith, drop, length, refl}
use Rattle.std.proofs.lemmas.List.{take_rest}
use Rattle.kp_publish.proofs.DrawingLemmas.{by_takes}
use Rattle.kp_publish.proofs.input.Input.give_line.Goals as goal

pub returns : goal.returns
returns c =
    let input = c.args.self.now in
    let rest = c.in_ok-rest.field-0.now in
    let place : c.len.result - length rest ≡ length input.piece.items - length rest =
    omega (arith, c.deref.ensures.len, ap length c.deref.ensures.value, c.len.ensures) in
    by_takes input _ c.args.sender.now c.take.new.self _ rest input.within refl place
    (take_rest c.deref.result.now input.taken ∙ ap (drop input.taken) c.deref.ensures.value) c.in_ok-rest.ensures.takes
