-- Commands of other programs.
use Rattle.std.specs.Prelude.{◌≡◌, Result, Err}
use Rattle.kp_command_line.specs.declared.command_line.Command.{Command}
use Rattle.kp_command_line.specs.declared.command_line.Command.TheVariants.{Pack, Replay, Run, Send}
use Rattle.kprod_pack.specs.declared.fault.Fault.{Fault}
use Rattle.kprod_pack.specs.declared.fault.Fault.TheVariants.{Elsewhere}

-- A command may end well where it is to pack; any other is left to another program.
abbrev pub LeavesOthers : Command → Result (Unit {0}) Fault → Type 0
LeavesOthers (Pack file) result = Unit {0}
LeavesOthers (Replay file) result = result ≡ Err Elsewhere
LeavesOthers (Run wanted) result = result ≡ Err Elsewhere
LeavesOthers Send result = result ≡ Err Elsewhere
