-- A producer that makes no call on the system: its core, what it has accepted, and what its connections carry.
use Rattle.std.specs.Prelude.{ℕ, Bool, false, List, [], Option, None}
use Rattle.kp_accum.specs.declared.config.Config.{Config}
use Rattle.kp_cluster.specs.Cluster.{Cluster}
use Rattle.kp_embed.specs.declared.line.Line.{Line}
use Rattle.kp_rules.specs.declared.names.Names.{Names}
use Rattle.kp_rules.specs.Records.{Core}

pub record Producer : Type 0 where
  pub is_failed : Bool  -- it was not ready in time
  pub is_closed : Bool  -- no record is accepted any more
  pub config : Config
  pub names : Names
  pub core : Option Core  -- none before a broker has given an id
  pub counts : List ℕ  -- by partition, how many records were accepted
  pub lines : List (Option Line)  -- by node: what its connection carries, where there is one
  pub cluster : Cluster

-- the line of a new connection
abbrev pub fresh_line : Line
fresh_line = record { question = None; out = []; held = [] }

-- one that was never called
abbrev pub new_producer : Config → Names → Cluster → Producer
new_producer config names cluster = record { is_failed = false; is_closed = false; config = config; names = names; core = None; counts = []; lines = []; cluster = cluster }

abbrev pub with_cluster : Cluster → Producer → Producer
with_cluster cluster p = record p { cluster = cluster }

-- the producer apart from its connections
abbrev pub apart : Producer → Producer
apart p = record p { lines = [] }
