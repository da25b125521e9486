-- A producer's settings: the defaults, and the first fault.
use Rattle.std.specs.Prelude.{ℕ, List, false, None, nat_lt, length, min, Result, Ok, Err, if◌then◌else◌}
use Rattle.kp_accum.specs.Config.{checked, default_config}
use Rattle.kp_accum.specs.declared.fault.ConfigFault.{ConfigFault}
use Rattle.kp_hello.specs.declared.hello.Hello.{Hello}
use Rattle.kp_lanes.specs.declared.limits.Limits.{Limits}
use Rattle.kp_rules.specs.Opening.{NAME_LIMIT}
use Rattle.kp_settings.specs.declared.fault.OpenFault.{OpenFault}
use Rattle.kp_settings.specs.declared.fault.OpenFault.TheVariants.{Topic, Client, Config, Policy as HasLimit}
use Rattle.kp_settings.specs.declared.policy.Policy.{Policy}
use Rattle.kp_settings.specs.declared.policy.Policy.TheVariants.{InAll, InARow, Unlimited}
use Rattle.kp_settings.specs.declared.settings.Settings.{Settings}

abbrev pub of_config : Result (Unit {0}) ConfigFault → Result (Unit {0}) OpenFault
of_config (Ok done) = Ok done
of_config (Err fault) = Err (Config fault)

-- one sender with 1024 places, Kafka's configuration, any number of partitions, tries to open for as long as a record is tried,
-- as many new connections as it takes, no audit
abbrev pub default_settings : List ℕ → List ℕ → Settings
default_settings topic client = record {
  names = record { topic = topic; client = client };
  senders = 1;
  capacity = 1024;
  config = default_config;
  partitions = None;
  open_timeout_ms = default_config.delivery_timeout_ms;
  policy = Unlimited;
  audits = false;
}

-- too long a topic, then too long a client's name, then the configuration's
abbrev pub checked_settings : Settings → Result (Unit {0}) OpenFault
checked_settings s =
    if nat_lt NAME_LIMIT (length s.names.topic) then Err Topic
    else if nat_lt NAME_LIMIT (length s.names.client) then Err Client
    else of_config (checked s.config)

-- the same, and behind it the policy, which may have no limit
abbrev pub checked_policy : Policy → Result (Unit {0}) OpenFault
checked_policy (InAll n) = Err HasLimit
checked_policy (InARow n) = Err HasLimit
checked_policy Unlimited = Ok tt

abbrev pub followed_by : Result (Unit {0}) OpenFault → Result (Unit {0}) OpenFault → Result (Unit {0}) OpenFault
followed_by (Ok done) next = next
followed_by (Err fault) next = Err fault

abbrev pub checked_for_cluster : Settings → Result (Unit {0}) OpenFault
checked_for_cluster s = followed_by (checked_settings s) (checked_policy s.policy)

-- the most that a record may take
abbrev pub record_limit : Settings → ℕ
record_limit s = min s.config.max_request_size s.config.buffer_memory

-- what the lanes take: a record for a partition that is there, and that a request can hold, and the memory too
abbrev pub limits_of : Hello → Settings → Limits
limits_of hello s = record { partitions = hello.partitions; max_record = record_limit s }
