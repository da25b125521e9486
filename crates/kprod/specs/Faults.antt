-- The line that a fault is told by, and the fault that a reading's or a run's is told as.
use Rattle.std.specs.Prelude.{ℕ, List, [], ◌++◌, codes}
use Rattle.kprod.specs.declared.fault.Fault.{Fault}
use Rattle.kprod.specs.declared.fault.Fault.TheVariants.{CannotRead, OutOfMemory, Topic, Plan, Config, Network, Handshake, Elsewhere, CannotWrite}
use Rattle.kp_accum.specs.Config.{number_of}
use Rattle.kp_hello.specs.Fault.{fault_number}
use Rattle.kp_program.specs.Told.{cannot_read_line, numbered_line}
use Rattle.kp_program.specs.declared.streams.ReadFault.{ReadFault}
use Rattle.kp_program.specs.declared.streams.ReadFault.TheVariants as read
use Rattle.kp_run.specs.declared.fault.RunFault.{RunFault}
use Rattle.kp_run.specs.declared.fault.RunFault.TheVariants as run
use Rattle.kp_text.specs.Lines.{newline}

abbrev pub of_read : ReadFault → Fault
of_read (read.CannotRead file) = CannotRead file
of_read read.OutOfMemory = OutOfMemory

-- of the configuration and of the handshake a fault is told by its number
abbrev pub of_run : RunFault → Fault
of_run run.Topic = Topic
of_run run.Plan = Plan
of_run (run.Config why) = Config (number_of why)
of_run run.Network = Network
of_run (run.Handshake why) = Handshake (fault_number why)
of_run run.OutOfMemory = OutOfMemory

-- an output that takes no more is told to nobody
abbrev pub fault_line : Fault → List ℕ
fault_line (CannotRead file) = cannot_read_line file.now
fault_line OutOfMemory = codes "kprod: out of memory" ++ newline
fault_line Topic = codes "kprod: topic fault" ++ newline
fault_line Plan = codes "kprod: plan fault" ++ newline
fault_line (Config number) = numbered_line (codes "kprod: config fault ") number
fault_line Network = codes "kprod: network fault" ++ newline
fault_line (Handshake number) = numbered_line (codes "kprod: handshake fault ") number
fault_line Elsewhere = codes "kprod: this command is another program's, which ./kprod runs" ++ newline
fault_line CannotWrite = []
