-- A producer that was made.
use Rattle.std.specs.Prelude.{◌≡◌, ℕ, List, Option, Some}
use Rattle.kp_bootstrap.specs.Addresses.{AreAddresses, entries_of}
use Rattle.kp_c.specs.Values.{cluster_of, config_of}
use Rattle.kp_c.specs.declared.values.KpConfig.{KpConfig}
use Rattle.kp_cluster.specs.Cluster.{new_cluster}
use Rattle.kp_cluster.specs.declared.slot.Address.{Address}
use Rattle.kp_embed.specs.Producer.{Producer, new_producer}

-- It has this configuration and these names, knows these addresses, and was never called.
pub record IsNew (config : KpConfig) (topic client addresses : List ℕ) (made : Option Producer) : Type 0 where
  pub bootstrap : List Address
  pub are : AreAddresses (entries_of addresses) bootstrap
  pub is : made ≡ Some (new_producer (config_of config) (record { topic = topic; client = client }) (new_cluster (cluster_of config) bootstrap))
