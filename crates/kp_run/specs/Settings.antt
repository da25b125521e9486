-- What a producer is opened with.
use Rattle.std.specs.Prelude.{◌≡◌}
use Rattle.kp_options.specs.Places.{expected_partitions}
use Rattle.kp_options.specs.declared.options.Options.{Options}
use Rattle.kp_settings.specs.declared.settings.Settings.{Settings}
use Rattle.kp_settings.specs.declared.policy.Policy.TheVariants.{InAll}
use Rattle.kp_run.specs.declared.settings.TheConstants.{CAPACITY, CLIENT, NEW_CONNECTIONS}

pub record AreSettingsOf (options : Options) (settings : Settings) : Type 0 where
  pub topic : settings.names.topic ≡ options.topic.now
  pub client : settings.names.client ≡ CLIENT.now
  pub senders : settings.senders ≡ options.senders
  pub capacity : settings.capacity ≡ CAPACITY
  pub config : settings.config ≡ options.config
  pub partitions : settings.partitions ≡ expected_partitions options.place options.partitions
  pub once : settings.open_timeout_ms ≡ 0
  pub policy : settings.policy ≡ InAll NEW_CONNECTIONS
  pub audits : settings.audits ≡ options.audits
