-- The fault of a run, by what was met.
use Rattle.std.specs.declared.io.ErrorKind.{ErrorKind}
use Rattle.std.specs.declared.io.ErrorKind.TheVariants as kind
use Rattle.kp_broker.specs.declared.plan.fault.PlanFault.{PlanFault}
use Rattle.kp_broker.specs.declared.plan.fault.PlanFault.TheVariants as plan
use Rattle.kp_hello.specs.declared.fault.HandshakeFault.TheVariants.{BadAnswer}
use Rattle.kp_settings.specs.declared.fault.OpenFault.{OpenFault}
use Rattle.kp_settings.specs.declared.fault.OpenFault.TheVariants as opening
use Rattle.kp_settings.specs.declared.fault.ServiceFault.{ServiceFault}
use Rattle.kp_settings.specs.declared.fault.ServiceFault.TheVariants as service
use Rattle.kp_run.specs.declared.fault.RunFault.{RunFault}
use Rattle.kp_run.specs.declared.fault.RunFault.TheVariants.{Topic, Plan, Config, Network, Handshake, OutOfMemory}

abbrev pub of_plan : PlanFault → RunFault
of_plan plan.BadPlan = Plan
of_plan plan.OutOfMemory = OutOfMemory

-- refused memory is no fault of the network
abbrev pub of_kind : ErrorKind → RunFault
of_kind kind.OutOfMemory = OutOfMemory
of_kind _ = Network

-- A broker that names another number of partitions, or more than a topic may have, gave a bad answer.
abbrev pub of_opening : OpenFault → RunFault
of_opening opening.Topic = Topic
of_opening opening.Client = Topic
of_opening (opening.Config fault) = Config fault
of_opening opening.Policy = Network
of_opening opening.Network = Network
of_opening (opening.Handshake fault) = Handshake fault
of_opening (opening.Partitions expected found) = Handshake BadAnswer
of_opening (opening.Lanes fault) = Handshake BadAnswer
of_opening opening.OutOfMemory = OutOfMemory

abbrev pub of_service : ServiceFault → RunFault
of_service service.EventLoop = Network
of_service service.OutOfMemory = OutOfMemory
