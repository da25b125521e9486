use Rattle.std.proofs.Common.{◌≡◌, map, take}
use Rattle.kp_rules.specs.Framing.{data_of}
use Rattle.kp_parts.proofs.framing.data_of_all.Given as goal

abbrev pub invariant-loop-sending : goal.invariant-loop-sending
invariant-loop-sending l = l.all.items ≡ map data_of (take l.sending-index l.sendings)
