-- Why a broker gives no answer.
use Rattle.kp_frames.specs.declared.fault.FrameFault.{FrameFault}
use Rattle.kp_frames.specs.declared.fault.FrameFault.TheVariants as frame
use Rattle.kp_broker.specs.declared.fault.BrokerFault.{BrokerFault}
use Rattle.kp_broker.specs.declared.fault.BrokerFault.TheVariants.{Frame, OutOfMemory}

-- refused memory is no fault of a frame
abbrev pub of_frame : FrameFault → BrokerFault
of_frame frame.OutOfMemory = OutOfMemory
of_frame fault = Frame fault
