-- What contracts see of a service.
use Rattle.std.specs.Prelude.{ℕ, Bool, ◌<◌, length}
use Rattle.kp_hello.specs.declared.hello.Hello.{Hello}
use Rattle.kp_lanes.specs.Sender.{sender_number}
use Rattle.kp_lanes.specs.declared.sender.Sender.{Sender}
use Rattle.kp_running.specs.Bells.{sender_bells}
use Rattle.kp_client.specs.declared.brokers.Brokers.{Brokers}
use Rattle.kp_client.specs.declared.shared.Shared.{Shared}
use Rattle.kp_lanes.specs.declared.intake.Intake.{Intake}
use Rattle.kp_rules.specs.Records.{Core}
use Rattle.kp_client.specs.declared.service.Service.{Service}

abbrev pub intake_of : Service → Intake
intake_of service = service.intake

abbrev pub core_of : Service → Core
core_of service = service.core

abbrev pub hello_of : Service → Hello
hello_of service = service.hello

-- how many partitions the topic has
abbrev pub partitions_of : Service → ℕ
partitions_of service = (hello_of service).partitions

-- whether its core lists what was handed over
abbrev pub audits_of : Service → Bool
audits_of service = service.audits

abbrev pub brokers_of : Service → Brokers
brokers_of service = service.brokers

-- one of the bells is the sender's
abbrev pub HasBell : Shared → Sender → Type 0
HasBell shared sender = sender_number sender < length (sender_bells shared.bells)
