-- What is true of each producer.
use Rattle.std.specs.Prelude.{◌≡◌, ℕ, ◌≤◌, List, [], length, Option, None, Ok, replicate}
use Rattle.kp_accum.specs.declared.config.Config.{Config}
use Rattle.kp_accum.specs.Config.{checked}
use Rattle.kp_rules.specs.declared.names.Names.{Names}
use Rattle.kp_rules.specs.Opening.{NAME_LIMIT}
use Rattle.kp_rules.specs.Records.{Core}

-- A core may be made of its configuration and its names; there are no more partitions than there may be, and none is known
-- before there is a core.
pub record IsSound (config : Config) (names : Names) (core : Option Core) (counts : List ℕ) : Type 0 where
  pub right : checked config ≡ Ok tt
  pub topic : length names.topic ≤ NAME_LIMIT
  pub client : length names.client ≤ NAME_LIMIT
  pub few : length counts ≤ 1024
  pub unopened : core ≡ None → counts ≡ []

-- Of no partition a record was accepted, and there are no more partitions than there may be.
pub record IsFresh (counts : List ℕ) : Type 0 where
  pub partitions : ℕ
  pub none : counts ≡ replicate partitions 0
  pub few : partitions ≤ 1024
