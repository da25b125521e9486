-- The next request to a node: which refusal comes, what goes out, and the core then.
use Rattle.std.specs.Prelude.{◌≡◌, ℕ, ◌+◌, ◌-◌, ◌^◌, Bool, true, List, [], ◌∷◌, ◌++◌, map, filter, Option, Some, None, Result, Ok, Err, IsOkAnd, IsSome, ◌==◌, not, nat_lt, if◌then◌else◌}
use Rattle.std.specs.List.{AllByRecursion, last_or}
use Rattle.kp_rules.specs.declared.fault.CoreFault.{CoreFault}
use Rattle.kp_rules.specs.declared.fault.CoreFault.TheVariants.{CorrelationSpent, Ended}
use Rattle.kp_rules.specs.Records.{Demand, Produce, InitProducerId, Request, Turn, Core, Called, quietly}
use Rattle.kp_rules.specs.Partitions.{changed_at, leads, partition_at}
use Rattle.kp_rules.specs.HandingOver.{send_in}
use Rattle.kp_rules.specs.Next.{Sending, next_demand}

-- a request that goes out
pub record Packet : Type 0 where
  pub correlation : ℕ
  pub demand : Demand Sending

-- ---- the core once it went out

abbrev pub partitions_in : List Sending → List ℕ
partitions_in xs = map (λ x. x.partition) xs

-- what is remembered of it
abbrev pub request_of : ℕ → ℕ → Core → Demand ℕ → Request
request_of node now s demand =
    record { correlation = s.correlation; node = node; sent = now; demand = demand }

-- the turns, where these partitions' batches went out to this node
abbrev pub turned : ℕ → List ℕ → List Turn → List Turn
turned node ps turns = elim (last_or None ps) [
  | None ↦ turns
  | Some p ↦ filter (λ x. not (x.node == node)) turns ++ (record { node = node; last_used = p }) ∷ []
]

-- It is in flight, with its batches, and the last one's partition is the last one used.
abbrev pub sent_out : ℕ → ℕ → Core → Demand Sending → Core
sent_out node now s (Produce xs) = record s {
  partitions = changed_at (partitions_in xs) (λ p t. send_in s.correlation t) s.partitions;
  requests = s.requests ++ request_of node now s (Produce (partitions_in xs)) ∷ [];
  correlation = s.correlation + 1;
  turns = turned node (partitions_in xs) s.turns;
}
sent_out node now s (InitProducerId p) = record s {
  requests = s.requests ++ request_of node now s (InitProducerId p) ∷ [];
  correlation = s.correlation + 1;
}

-- ---- the call

abbrev pub Requested : Type 0
Requested = Called (Result (Option Packet) CoreFault)

-- the correlation ids are those int32s that are not below 0, each used once
abbrev pub is_spent : Core → Bool
is_spent s = nat_lt (2 ^ 31 - 1) s.correlation

abbrev pub go_out : ℕ → ℕ → Core → Demand Sending → Requested
go_out node now s demand =
    let packet : Packet = record { correlation = s.correlation; demand = demand } in
    quietly (sent_out node now s demand) (Ok (Some packet))

-- After the end, no request at all; else this one, while there are correlation ids.
abbrev pub request_for : ℕ → ℕ → Core → Option (Demand Sending) → Requested
request_for node now s wanted =
    if s.ended then quietly s (Err Ended)
    else elim wanted [
      | None ↦ quietly s (Ok None)
      | Some demand ↦ if is_spent s then quietly s (Err CorrelationSpent) else go_out node now s demand
    ]

unfoldable pub request_step : ℕ → ℕ → Core → Requested
request_step node now s = request_for node now s (next_demand node now s)

-- Memory can be wanting only where a request goes out.
abbrev pub RequestNeedsMemory : ℕ → ℕ → Core → Type 0
RequestNeedsMemory node now s = IsOkAnd (request_step node now s).answer IsSome

-- this node leads the batch's partition
abbrev pub IsLed : ℕ → Core → Sending → Type 0
IsLed node s x = leads node (partition_at x.partition s.partitions) ≡ true

-- It asks for nothing but for what this node leads.
abbrev pub AsksOfLed : ℕ → Core → Demand Sending → Type 0
AsksOfLed node s (Produce xs) = AllByRecursion (IsLed node s) xs
AsksOfLed node s (InitProducerId p) = leads node (partition_at p s.partitions) ≡ true
