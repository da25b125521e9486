use Rattle.std.proofs.Common.{ap, ◌∙◌}
use Rattle.std.specs.Prelude.{bit_xor}
use Rattle.kp_wire.specs.Register.{step_times}
use Rattle.kp_wire.proofs.checksum.shift_eight.Goals as goal

pub returns : goal.returns
returns c = rw c.from.ensures at c.places.ensures
