use Rattle.std.proofs.Common.{◌≡◌, take}
use Rattle.kp_rules.specs.Requesting.{partitions_in}
use Rattle.kp_core.proofs.machine.committing.partitions_in.Given as goal

abbrev pub invariant-loop-sending : goal.invariant-loop-sending
invariant-loop-sending l = l.chosen.items ≡ partitions_in (take l.sending-index l.sendings)
