-- The line that a fault is told by, and the fault that a reading's or a packing's is told as.
use Rattle.std.specs.Prelude.{ℕ, List, [], ◌++◌, codes}
use Rattle.kprod_pack.specs.declared.fault.Fault.{Fault}
use Rattle.kprod_pack.specs.declared.fault.Fault.TheVariants.{CannotRead, OutOfMemory, TooLarge, Elsewhere, CannotWrite}
use Rattle.kp_packing.specs.declared.fault.PackFault.{PackFault}
use Rattle.kp_packing.specs.declared.fault.PackFault.TheVariants as pack
use Rattle.kp_program.specs.Told.{cannot_read_line}
use Rattle.kp_program.specs.declared.streams.ReadFault.{ReadFault}
use Rattle.kp_program.specs.declared.streams.ReadFault.TheVariants as read
use Rattle.kp_text.specs.Lines.{newline}

abbrev pub of_read : ReadFault → Fault
of_read (read.CannotRead file) = CannotRead file
of_read read.OutOfMemory = OutOfMemory

abbrev pub of_pack : PackFault → Fault
of_pack pack.OutOfMemory = OutOfMemory
of_pack pack.TooLarge = TooLarge

-- an output that takes no more is told to nobody
abbrev pub fault_line : Fault → List ℕ
fault_line (CannotRead file) = cannot_read_line file.now
fault_line OutOfMemory = codes "kprod: out of memory" ++ newline
fault_line TooLarge = codes "kprod: input too large" ++ newline
fault_line Elsewhere = codes "kprod: this command is another program's, which ./kprod runs" ++ newline
fault_line CannotWrite = []
