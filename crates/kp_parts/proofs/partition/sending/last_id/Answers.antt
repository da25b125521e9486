use Rattle.std.proofs.Common.{rules}
use Rattle.kp_parts.proofs.PartitionRoomLemmas.{last_id-is}
use Rattle.kp_parts.proofs.partition.sending.last_id.Goals as goal

pub returns-in-len1-up : goal.returns-in-len1-up
returns-in-len1-up c = last_id-is c.args.ids.now (search rules)
