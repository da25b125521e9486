-- Where a service's brokers are, and how often connections are made anew.
use Rattle.std.specs.Prelude.{◌≡◌, ℕ, ◌*◌, false, List, Option, None}
use Rattle.std.specs.Duration.{as_nanos}
use Rattle.std.specs.declared.net.socket_addr.SocketAddr.{SocketAddr}
use Rattle.kp_cluster.specs.Cluster.{new_cluster}
use Rattle.kp_cluster.specs.declared.config.ClusterConfig.{ClusterConfig}
use Rattle.kp_cluster.specs.declared.slot.Address.{Address}
use Rattle.kp_settings.specs.declared.settings.Settings.{Settings}
use Rattle.kp_client.specs.Policy.{limit_of, none_made}
use Rattle.kp_client.specs.declared.brokers.Brokers.{Brokers}
use Rattle.kp_client.specs.declared.brokers.Brokers.TheVariants.{Cluster, One}
use Rattle.kp_client.specs.declared.connecting.Way.{Way}

-- It goes to this address, and is as patient as the settings say.
pub record IsWay (address : SocketAddr) (s : Settings) (way : Way) : Type 0 where
  pub there : way.address ≡ address
  pub patience : as_nanos way.patience ≡ s.config.request_timeout_ms * 1_000_000

-- The only one is at this address, and new connections to it are counted by the settings' policy, of which none was made yet.
abbrev pub IsAt : SocketAddr → Settings → Brokers → Type 0
IsAt address s (One way again) = IsWay address s way × (again ≡ none_made s.policy s.config.retry_backoff_ms)
IsAt address s (Cluster cluster names) = ⊥

-- how a cluster is reached: as Kafka's defaults have it, and an answer is awaited as long as the settings say
abbrev pub config_for : Settings → ClusterConfig
config_for s = record {
  reconnect_backoff_ms = 50;
  reconnect_backoff_max_ms = 1000;
  metadata_max_age_ms = 300_000;
  request_timeout_ms = s.config.request_timeout_ms;
  keep_to_one = false;
}

-- They are those of the cluster of which these addresses are known, and no more.
abbrev pub IsOf : List Address → Settings → Brokers → Type 0
IsOf bootstrap s (One way again) = ⊥
IsOf bootstrap s (Cluster cluster names) = (cluster ≡ new_cluster (config_for s) bootstrap) × (names ≡ s.names)

-- how many new connections there may be, where there is a limit
abbrev pub limit_for : Brokers → Option ℕ
limit_for (One way again) = limit_of again.policy
limit_for (Cluster cluster names) = None
