-- What a request in flight is seen as, and which there are.
use Rattle.std.specs.Prelude.{ℕ, Option, find, option_map}
use Rattle.kp_core.specs.declared.requests.Demand.{Demand}
use Rattle.kp_core.specs.declared.requests.Demand.TheVariants.{Produce, InitProducerId}
use Rattle.kp_rules.specs.Attempts.{goes_to}
use Rattle.kp_rules.specs.Records as seen
use Rattle.kp_rules.specs.Records.{Core}

abbrev pub demand_of : Demand → seen.Demand ℕ
demand_of (Produce partitions) = seen.Produce partitions.items
demand_of (InitProducerId partition) = seen.InitProducerId partition

-- when the first one went out of those that are in flight to the node
abbrev pub oldest_to : ℕ → Core → Option ℕ
oldest_to node s = option_map (λ r. r.sent) (find (goes_to node) s.requests)
