-- Which fault a producer is not opened with, and a service ends with.
use Rattle.std.specs.IoError.{error_kind}
use Rattle.std.specs.declared.io.Error.{Error}
use Rattle.std.specs.declared.io.ErrorKind.{ErrorKind}
use Rattle.std.specs.declared.io.ErrorKind.TheVariants as kinds
use Rattle.kp_hello.specs.declared.fault.HandshakeFault.{HandshakeFault}
use Rattle.kp_hello.specs.declared.fault.HandshakeFault.TheVariants as handshake
use Rattle.kp_lanes.specs.declared.fault.OpenFault.{OpenFault as LanesFault}
use Rattle.kp_lanes.specs.declared.fault.OpenFault.TheVariants as lanes
use Rattle.kp_settings.specs.declared.fault.OpenFault.{OpenFault}
use Rattle.kp_settings.specs.declared.fault.OpenFault.TheVariants.{Topic, Client, Config, Policy, Network, Handshake, Lanes, OutOfMemory}
use Rattle.kp_settings.specs.declared.fault.ServiceFault.{ServiceFault}
use Rattle.kp_settings.specs.declared.fault.ServiceFault.TheVariants as serving

-- ---- want of memory is want of memory, wherever it is met

abbrev pub of_kind : ErrorKind → OpenFault
of_kind kinds.OutOfMemory = OutOfMemory
of_kind kind = Network

abbrev pub of_error : Error → OpenFault
of_error error = of_kind (error_kind error)

abbrev pub of_handshake : HandshakeFault → OpenFault
of_handshake handshake.OutOfMemory = OutOfMemory
of_handshake fault = Handshake fault

abbrev pub of_lanes : LanesFault → OpenFault
of_lanes lanes.OutOfMemory = OutOfMemory
of_lanes fault = Lanes fault

abbrev pub of_loop_kind : ErrorKind → ServiceFault
of_loop_kind kinds.OutOfMemory = serving.OutOfMemory
of_loop_kind kind = serving.EventLoop

abbrev pub of_loop : Error → ServiceFault
of_loop error = of_loop_kind (error_kind error)

-- ---- when they are looked for

-- It is one of the settings' own.
abbrev pub OfSettings : OpenFault → Type 0
OfSettings Topic = Unit {0}
OfSettings Client = Unit {0}
OfSettings (Config fault) = Unit {0}
OfSettings Policy = Unit {0}
OfSettings fault = ⊥

-- It is none of theirs.
abbrev pub IsLater : OpenFault → Type 0
IsLater fault = OfSettings fault → ⊥
