-- A producer that makes no call on the system, since it was made, and what brokers and the network did around the calls on its core.
use Rattle.std.specs.Prelude.{◌≡◌, ℕ, false, List, [], ◌∷◌, ◌++◌, Some}
use Rattle.kp_accum.specs.declared.config.Config.{Config}
use Rattle.kp_accum.specs.declared.item.Item.{Item}
use Rattle.kp_cluster.specs.Cluster.{Cluster}
use Rattle.kp_embed.specs.Going.{Acts, Begins, appended_in}
use Rattle.kp_embed.specs.Producer.{Producer, new_producer}
use Rattle.kp_headline.specs.Around.{Around, AssumedAround}
use Rattle.kp_headline.specs.Moves.{Move, led}
use Rattle.kp_headline.specs.Offering.{having_accepted}
use Rattle.kp_headline.specs.Outside.{State}
use Rattle.kp_rules.specs.declared.names.Names.{Names}
use Rattle.kp_rules.specs.Calls.{Call}
use Rattle.kp_rules.specs.Records.{Core}
use Rattle.kp_world.specs.World.{Opening}

-- Any calls on a producer from its making on, one after the other: all calls on its core, and what it is now.
pub data Runs (config : Config) (names : Names) : List Call → Producer → Type 0 where
  made : (cluster : Cluster) → Runs config names [] (new_producer config names cluster)
  acted : (p q : Producer) (calls more : List Call) → Runs config names calls p → Acts p more q → Runs config names (calls ++ more) q

-- what its core was made of
abbrev pub opening_of : Config → Names → (partitions id : ℕ) → Opening
opening_of config names partitions id = record {
  config = config;
  names = names;
  partitions = partitions;
  senders = 1;
  id = id;
  correlation = 2;
  audits = false;
}

-- What its one sender had accepted: all that was appended.
abbrev pub accepted_by : List Call → List (List Item)
accepted_by calls = appended_in calls ∷ []

-- before the first call, when all was accepted
abbrev pub begin : Opening → List Call → State
begin o calls = having_accepted o (accepted_by calls)

-- It holds of any calls on a producer that has a core, and of what is known once brokers and the network have done anything
-- around the calls on the core.
abbrev pub AfterAnyCalls : (Opening → State → Type 0) → Type 0
AfterAnyCalls Holds =
    (config : Config) (names : Names) (calls : List Call) (p : Producer) (t : Core) (ms : List Move)
    → Runs config names calls p
    → p.core ≡ Some t
    → (b : Begins config names calls t)
    → Around (opening_of config names b.partitions b.id) (accepted_by calls) calls ms
    → AssumedAround (begin (opening_of config names b.partitions b.id) calls) ms
    → Holds (opening_of config names b.partitions b.id) (led (begin (opening_of config names b.partitions b.id) calls) ms)
