-- A command that is another program's does not end well.
use Rattle.std.proofs.Common.{arith}
use Rattle.std.specs.Prelude.{Ok}
use Rattle.kp_command_line.specs.CommandLine.{Sends}
use Rattle.kp_command_line.specs.declared.command_line.Command.{Command}
use Rattle.kp_command_line.specs.declared.command_line.Command.TheVariants.{Pack, Replay, Run, Send}
use Rattle.kprod_pack.specs.Others.{LeavesOthers}

pub sends_nothing : (command : Command) (done : Unit {0}) → Sends command → LeavesOthers command (Ok done) → ⊥
sends_nothing Send done sends leaves = grind (arith, leaves)
sends_nothing (Pack file) done sends leaves = sends
sends_nothing (Replay file) done sends leaves = sends
sends_nothing (Run wanted) done sends leaves = sends
