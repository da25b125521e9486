use Rattle.std.proofs.Common.{ℕ, List, drop, ap, ◌∙◌, arith}
use Rattle.std.specs.Prelude.{bit_xor}
use Rattle.std.specs.List.{fold}
use Rattle.std.proofs.lemmas.List.{take_rest}
use Rattle.kp_wire.specs.Register.{byte_step, step_times}
use Rattle.kp_wire.proofs.ChecksumLemmas.{are_bytes}
use Rattle.kp_wire.proofs.SliceLemmas.{eight_bytes, low_first}
use Rattle.kp_wire.proofs.checksum.shift_on.Goals as goal

pub returns-clause-on : goal.returns-clause-on
unfolding low_first
returns-clause-on c =
    let bytes : List ℕ = c.args.following.now in
    let register : ℕ = step_times 64 (bit_xor c.args.register c.args.first) in
    ap (fold byte_step c.shift_sixteen.result) (take_rest bytes 8)
    ∙ ap (λ (s : ℕ). fold byte_step s (drop 8 bytes)) (c.shift_sixteen.ensures ∙ ap (λ (x : ℕ). step_times 64 (bit_xor register x)) (c.from_le_bytes-last.ensures ∙ omega arith))
    ∙ eight_bytes register bytes (omega arith) (are_bytes bytes (λ i. omega (arith, c.type_inv.following i)))

pub returns-clause-left : goal.returns-clause-left
returns-clause-left c = (8, take_rest c.args.following.now 8)
