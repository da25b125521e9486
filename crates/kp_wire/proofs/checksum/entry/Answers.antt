use Rattle.std.proofs.Common.{arith}
use Rattle.kp_wire.proofs.TableEntries.{entry_is}
use Rattle.kp_wire.proofs.checksum.entry.Goals as goal

pub returns : goal.returns
returns c = entry_is c.args.table c.args.low c.requires (omega arith)
