-- What contracts see of a producer that was opened.
use Rattle.std.specs.Prelude.{◌≡◌, ℕ, List, [], ◌∷◌, Ok, All, IfSome, length, map}
use Rattle.kp_hello.specs.Hello.{metadata_given, producer_id_given}
use Rattle.kp_hello.specs.declared.hello.Hello.{Hello}
use Rattle.kp_lanes.specs.Closer.{closer_gate}
use Rattle.kp_lanes.specs.Intake.{intake_gate, lanes_of, numbers_below}
use Rattle.kp_lanes.specs.Sender.{sender_id, sender_number, IsFresh, IsSenderOf}
use Rattle.kp_rules.specs.Auditing.{opened}
use Rattle.kp_rules.specs.Opening.{new_core}
use Rattle.kp_rules.specs.Records.{Core}
use Rattle.kp_rules.specs.declared.names.Names.{Names}
use Rattle.kp_settings.specs.Settings.{limits_of}
use Rattle.kp_settings.specs.declared.settings.Settings.{Settings}
use Rattle.kp_client.specs.Closing.{lanes_closer}
use Rattle.kp_client.specs.Producer.{lane_of}
use Rattle.kp_client.specs.Service.{brokers_of, core_of, hello_of, intake_of, partitions_of}
use Rattle.kp_client.specs.declared.brokers.Brokers.{Brokers}
use Rattle.kp_client.specs.declared.closer.Closer.{Closer}
use Rattle.kp_client.specs.declared.opening.Opened.{Opened}
use Rattle.kp_client.specs.declared.producer.Producer.{Producer}
use Rattle.kp_client.specs.declared.service.Service.{Service}

-- the core of a producer before its first call, as its settings and the broker's hello have it
abbrev pub first_core : Settings → Hello → Core
first_core s hello =
    opened s.audits (new_core s.config s.names hello.partitions s.senders hello.producer_id hello.next_correlation)

-- The contents of two answers give it: the first one names so many partitions of the topic, and the second one the producer
-- id. Two correlation ids are spent.
pub record IsGreeting (names : Names) (hello : Hello) : Type 0 where
  pub metadata : List ℕ
  pub producer_id : List ℕ
  pub partitions : metadata_given names.topic metadata ≡ Ok hello.partitions
  pub id : producer_id_given producer_id ≡ Ok hello.producer_id
  pub correlation : hello.next_correlation ≡ 2

-- It begins as the settings have it, over brokers of which this holds. The topic has the number of partitions that was asked for,
-- where one was.
pub record Begins (Its : Brokers → Type 0) (s : Settings) (service : Service) : Type 0 where
  pub greeting : IsGreeting s.names (hello_of service)
  pub asked : IfSome s.partitions (λ n. partitions_of service ≡ n)
  pub core : core_of service ≡ first_core s (hello_of service)
  pub brokers : Its (brokers_of service)

-- The handles are those of new senders, numbered from 0, at the service's lanes, and the closer shuts these lanes' gate.
pub record IsOpen (Its : Brokers → Type 0) (s : Settings) (opened : Opened) : Type 0 where
  pub service : Begins Its s opened.service
  pub numbers : map (λ p. sender_number (lane_of p)) opened.producers.items ≡ numbers_below s.senders
  pub fresh : All (λ p. IsFresh s.capacity (limits_of (hello_of opened.service) s) (lane_of p)) opened.producers.items
  pub lanes : All (λ p. IsSenderOf (lanes_of (intake_of opened.service)) (lane_of p)) opened.producers.items
  pub senders : length (lanes_of (intake_of opened.service)) ≡ s.senders
  pub gate : closer_gate (lanes_closer opened.closer) ≡ intake_gate (intake_of opened.service)

-- The handle is that of a new sender, the only one, at the service's only lane, and the closer shuts this lane's gate.
pub record IsOpenSingle (Its : Brokers → Type 0) (s : Settings) (producer : Producer) (closer : Closer) (service : Service) : Type 0 where
  pub begins : Begins Its (record s { senders = 1 }) service
  pub number : sender_number (lane_of producer) ≡ 0
  pub fresh : IsFresh s.capacity (limits_of (hello_of service) s) (lane_of producer)
  pub lane : lanes_of (intake_of service) ≡ sender_id (lane_of producer) ∷ []
  pub gate : closer_gate (lanes_closer closer) ≡ intake_gate (intake_of service)
