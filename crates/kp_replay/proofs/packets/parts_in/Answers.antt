use Rattle.std.proofs.Common.{◌<◌, length, arith}
use Rattle.kp_replay.specs.Packets.{IsPart}
use Rattle.kp_replay.proofs.EachLemmas.{each-next}
use Rattle.kp_replay.proofs.packets.parts_in.Goals as goal

pub loop-partition-preserved : goal.loop-partition-preserved
loop-partition-preserved c =
    let inside : c.loop-partition.partition-index < length c.args.partitions.now = omega arith in
    each-next IsPart c.args.partitions.now c.loop-partition.parts.items c.push.new.self.items c.loop-partition.partition-index c.partition-item.result c.in_ok-part_of.field-0 inside c.partition-item.is c.in_ok-part_of.ensures c.in_ok-push.ensures.items c.loop-partition.invariant
