use Rattle.std.proofs.Common.{take}
use Rattle.kp_replay.specs.Packets.{IsPart}
use Rattle.kp_replay.specs.Shown.{Each}
use Rattle.kp_replay.proofs.packets.parts_in.Given as goal

abbrev pub invariant-loop-partition : goal.invariant-loop-partition
invariant-loop-partition l = Each IsPart (take l.partition-index l.partitions) l.parts.items
