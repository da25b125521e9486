use Rattle.std.proofs.Common.{ℕ, sym, ap, ◌∙◌}
use Rattle.std.specs.Prelude.{bit_xor}
use Rattle.std.proofs.lemmas.Nat.{xor_comm}
use Rattle.kp_wire.specs.Register.{step_times}
use Rattle.kp_wire.proofs.StepLemmas.{steps-xor}
use Rattle.kp_wire.proofs.SliceLemmas.{steps-sum}
use Rattle.kp_wire.proofs.checksum.shift_sixteen.Goals as goal

pub returns : goal.returns
returns c =
    let mixed : ℕ = bit_xor c.args.register c.args.first in
    rw (c.places.ensures, c.places-2.ensures, c.from.ensures)
    (xor_comm (step_times 64 c.args.last) (step_times 128 mixed)
    ∙ ap (λ (x : ℕ). bit_xor x (step_times 64 c.args.last)) (steps-sum 64 64 mixed)
    ∙ sym (steps-xor 64 (step_times 64 mixed) c.args.last))
