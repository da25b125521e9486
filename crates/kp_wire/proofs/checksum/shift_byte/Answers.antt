use Rattle.std.proofs.Common.{ap, ◌∙◌, sym}
use Rattle.std.specs.Prelude.{bit_xor}
use Rattle.kp_wire.specs.Register.{byte_step}
use Rattle.kp_wire.proofs.StepLemmas.{by_low_byte}
use Rattle.kp_wire.proofs.checksum.shift_byte.Goals as goal

pub returns : goal.returns
returns c = rw c.entry.ensures (sym (by_low_byte (bit_xor c.args.register c.from.result)) ∙ ap (byte_step c.args.register) c.from.ensures)
