use Rattle.std.proofs.Common.{rules}
use Rattle.kp_replay.proofs.packets.part_of.Goals as goal

pub returns-in-Ok : goal.returns-in-Ok
returns-in-Ok c = record {
  batch = c.in-Ok.batch;
  read = search rules;
  partition = search rules;
  sequence = search rules;
  count = search rules;
}
