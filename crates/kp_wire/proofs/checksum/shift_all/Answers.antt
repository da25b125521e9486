use Rattle.std.proofs.Common.{◌∙◌, ◌<◌, ℕ, List, drop, ap, sym, subst, refl, arith}
use Rattle.std.specs.Prelude.{bit_xor}
use Rattle.std.specs.List.{fold}
use Rattle.std.proofs.lemmas.List.{take_all, take_rest}
use Rattle.kp_wire.specs.Register.{byte_step, step_times}
use Rattle.kp_wire.proofs.ChecksumLemmas.{AreBytes, are_bytes}
use Rattle.kp_wire.proofs.ListLemmas.{all_drop}
use Rattle.kp_wire.proofs.SliceLemmas.{eight_bytes, low_first}
use Rattle.kp_wire.proofs.checksum.shift_all.Goals as goal

pub loop-left-init : goal.loop-left-init
loop-left-init c = record { so_far = refl; bytes = are_bytes c.args.bytes.now (λ i. omega (arith, c.type_inv.bytes i)) }

pub loop-left-preserved : goal.loop-left-preserved
unfolding low_first
loop-left-preserved c =
    let bytes : List ℕ = c.loop-left.left.now in
    let register : ℕ = step_times 64 (bit_xor c.loop-left.register c.from_le_bytes-first.result) in
    record {
      so_far =
          c.shift_on-next.ensures.on
          ∙ ap (fold byte_step register) (take_rest bytes 8)
          ∙ ap (λ (x : ℕ). fold byte_step (step_times 64 (bit_xor c.loop-left.register x)) (drop 8 bytes)) (c.from_le_bytes-first.ensures ∙ omega arith)
          ∙ eight_bytes c.loop-left.register bytes (omega arith) c.loop-left.invariant.bytes
          ∙ c.loop-left.invariant.so_far;
      bytes =
          subst AreBytes (sym (c.shift_on-next.ensures.left.1 ∙ ap (drop c.shift_on-next.ensures.left.0) (take_rest bytes 8)))
          (all_drop (λ b. b < 256) c.shift_on-next.ensures.left.0 (drop 8 bytes) (all_drop (λ b. b < 256) 8 bytes c.loop-left.invariant.bytes));
    }

pub returns : goal.returns
returns c =
    c.loop-byte.invariant ∙ ap (fold byte_step c.loop-left.register) (take_all c.loop-byte.byte-index c.loop-left.left.now (omega (arith, c.loop-byte-test.false)))
    ∙ c.loop-left.invariant.so_far
