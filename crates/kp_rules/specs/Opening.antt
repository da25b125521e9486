-- A new core.
use Rattle.std.specs.Prelude.{◌≡◌, ℕ, ◌≤◌, ◌<◌, ◌^◌, false, [], length, replicate, None, Ok}
use Rattle.kp_accum.specs.declared.config.Config.{Config}
use Rattle.kp_accum.specs.Config.{checked}
use Rattle.kp_rules.specs.declared.names.Names.{Names}
use Rattle.kp_rules.specs.Records.{Core}
use Rattle.kp_rules.specs.Partitions.{new_partition}

unfoldable pub new_core : Config → Names → ℕ → ℕ → ℕ → ℕ → Core
new_core c names partitions senders id correlation = record {
  config = c;
  names = names;
  partitions = replicate partitions (new_partition id);
  requests = [];
  id_waits = None;
  correlation = correlation;
  turns = [];
  exhausted = false;
  closing = false;
  ended = false;
  reports = replicate senders [];
}

-- the longest name, of a topic or a client (Kafka's limit on topics)
abbrev pub NAME_LIMIT : ℕ
NAME_LIMIT = 249

-- what a new core may be made of
pub record MayOpen (c : Config) (n : Names) (partitions senders id correlation : ℕ) : Type 0 where
  pub config : checked c ≡ Ok tt
  pub some_partitions : 1 ≤ partitions
  pub partition_limit : partitions ≤ 1024
  pub some_senders : 1 ≤ senders
  pub sender_limit : senders ≤ 64
  pub topic : length n.topic ≤ NAME_LIMIT
  pub client : length n.client ≤ NAME_LIMIT
  pub known_id : id < 2 ^ 63
  pub known_correlation : correlation < 2 ^ 31
