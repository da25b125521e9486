-- A read's fault as one of the handshake's.
use Rattle.kp_frames.specs.declared.fault.FrameFault.TheVariants as frame
use Rattle.kp_hello.specs.declared.fault.HandshakeFault.{HandshakeFault}
use Rattle.kp_hello.specs.declared.fault.HandshakeFault.TheVariants.{Io, Frame, OutOfMemory}
use Rattle.kp_connection.specs.declared.fault.ReadFault.{ReadFault}
use Rattle.kp_connection.specs.declared.fault.ReadFault.TheVariants as read

abbrev pub of_read : ReadFault → HandshakeFault
of_read (read.Io error) = Io
of_read read.TooLarge = Frame frame.TooLarge
of_read read.OutOfMemory = OutOfMemory
