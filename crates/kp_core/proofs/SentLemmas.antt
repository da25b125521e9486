-- The batches of a request go out: which may, and the core then.
use Rattle.std.proofs.Common.{◌≡◌, ℕ, ◌+◌, ◌<◌, ◌^◌, false, List, [], ◌∷◌, ◌++◌, length, Some, arith}
use Rattle.std.specs.List.{AllByRecursion}
use Rattle.std.proofs.lemmas.Bool.{ltb-false}
use Rattle.kp_rules.specs.HandingOver.{send_in}
use Rattle.kp_rules.specs.InOrder.{AreDistinct, IsInOrder}
use Rattle.kp_rules.specs.Next.{Sending, flags_of, next_batches, next_demand}
use Rattle.kp_rules.specs.Partitions.{changed_at, partition_at}
use Rattle.kp_rules.specs.Records.{Core, Partition, Produce, Request, Turn}
use Rattle.kp_rules.specs.Requesting.{is_spent, partitions_in, request_of, sent_out, turned}
use Rattle.kp_rules.specs.Framing.{FitsPacket}
use Rattle.kp_rules.proofs.FittingLemmas.{demand_fits}
use Rattle.kp_rules.proofs.ListLemmas.{all_map}
use Rattle.kp_rules.proofs.OrderedCallLemmas.{places}
use Rattle.kp_rules.proofs.SendingLemmas.{IsSent, demand_is_distinct, demand_is_sent}
use Rattle.kp_parts.specs.Written.{produce_packet}
use Rattle.kp_core.specs.Choosing.{MayGoOut}
use Rattle.kp_core.proofs.GoingOutLemmas.{may_go_out}

pub left_over : (s : Core) → is_spent s ≡ false → s.correlation < 2 ^ 31
left_over s e = let not_past = ltb-false _ _ e in omega (arith, not_past)

-- ---- what may go out

pub all_there : (node now : ℕ) (s : Core) (xs : List Sending) → next_demand node now s ≡ Some (Produce xs)
    → AllByRecursion (λ p. p < length s.partitions) (partitions_in xs)
all_there node now s xs e =
    all_map (IsSent now s) (λ p. p < length s.partitions) (λ (x : Sending). x.partition) (λ x is. is.there) xs (demand_is_sent node now s xs e)

pub all_once : (node now : ℕ) (s : Core) (xs : List Sending) → next_demand node now s ≡ Some (Produce xs) → AreDistinct (partitions_in xs)
all_once node now s xs e = demand_is_distinct node now s xs e

pub all_placed : (node now : ℕ) (s : Core) (xs : List Sending) → IsInOrder s → is_spent s ≡ false → next_demand node now s ≡ Some (Produce xs)
    → AllByRecursion (λ p. MayGoOut (partition_at p s.partitions)) (partitions_in xs)
all_placed node now s xs order left e =
    all_map (IsSent now s) (λ p. MayGoOut (partition_at p s.partitions)) (λ (x : Sending). x.partition)
    (λ x is. may_go_out s.config (flags_of s) now (length s.reports) s.correlation x.partition (partition_at x.partition s.partitions) x.batch
    order.config (left_over s left) (places s order x.partition is.there) is.sends) xs (demand_is_sent node now s xs e)

-- ---- the core then

pub sent-is : (node now : ℕ) (s : Core) (xs : List Sending) (ts : List Partition) (requests : List Request) (turns : List Turn)
    → ts ≡ changed_at (partitions_in xs) (λ p t. send_in s.correlation t) s.partitions
    → requests ≡ s.requests ++ request_of node now s (Produce (partitions_in xs)) ∷ [] → turns ≡ turned node (partitions_in xs) s.turns
    → record s { partitions = ts; requests = requests; correlation = s.correlation + 1; turns = turns } ≡ sent_out node now s (Produce xs)
sent-is node now s xs ts requests turns e f g = cc

-- ---- what is written

-- the batches that a core in order sends next fit their message
pub batches_fit : (node now : ℕ) (s : Core) → IsInOrder s → is_spent s ≡ false → next_demand node now s ≡ Some (Produce (next_batches node now s))
    → FitsPacket s.config s.names (produce_packet s.correlation (next_batches node now s))
batches_fit node now s order left e = demand_fits node now s order (Produce (next_batches node now s)) e (left_over s left)
