-- The line that a fault is told by, and the fault that a reading's or a replay's is told as.
use Rattle.std.specs.Prelude.{ℕ, List, [], ◌++◌, codes, decimal}
use Rattle.kprod_replay.specs.declared.fault.Fault.{Fault}
use Rattle.kprod_replay.specs.declared.fault.Fault.TheVariants.{CannotRead, OutOfMemory, Config, BadLine, NoSuch, TooLong, Elsewhere, CannotWrite}
use Rattle.kp_accum.specs.Config.{number_of}
use Rattle.kp_program.specs.Told.{cannot_read_line, numbered_line}
use Rattle.kp_program.specs.declared.streams.ReadFault.{ReadFault}
use Rattle.kp_program.specs.declared.streams.ReadFault.TheVariants as read
use Rattle.kp_schedule.specs.declared.fault.ReplayFault.{ReplayFault}
use Rattle.kp_schedule.specs.declared.fault.ReplayFault.TheVariants as replay
use Rattle.kp_text.specs.Lines.{newline}

abbrev pub of_read : ReadFault → Fault
of_read (read.CannotRead file) = CannotRead file
of_read read.OutOfMemory = OutOfMemory

abbrev pub of_replay : ReplayFault → Fault
of_replay (replay.BadLine line) = BadLine line
of_replay (replay.NoSuch line) = NoSuch line
of_replay (replay.Config why) = Config (number_of why)
of_replay replay.TooLong = TooLong
of_replay replay.OutOfMemory = OutOfMemory

-- an output that takes no more is told to nobody
abbrev pub fault_line : Fault → List ℕ
fault_line (CannotRead file) = cannot_read_line file.now
fault_line OutOfMemory = codes "kprod: out of memory" ++ newline
fault_line (Config number) = numbered_line (codes "kprod: config fault ") number
fault_line (BadLine line) = codes "kprod: line " ++ decimal line ++ codes ": not understood" ++ newline
fault_line (NoSuch line) = codes "kprod: line " ++ decimal line ++ codes ": no such thing" ++ newline
fault_line TooLong = codes "kprod: schedule too long" ++ newline
fault_line Elsewhere = codes "kprod: this command is another program's, which ./kprod runs" ++ newline
fault_line CannotWrite = []
