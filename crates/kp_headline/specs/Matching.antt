-- A world that matches a core and what is around it.
use Rattle.std.specs.Prelude.{◌≡◌, ℕ, ◌<◌, List, pos, Some, Contains, slice_get}
use Rattle.std.specs.List.{AllByRecursion}
use Rattle.kp_log.specs.BrokerStep.{BrokerStep}
use Rattle.kp_log.specs.History.{History}
use Rattle.kp_rules.specs.Next.{Sending}
use Rattle.kp_rules.specs.Records.{Demand, Produce, InitProducerId, Request, Core}
use Rattle.kp_rules.specs.Requesting.{Packet, partitions_in}
use Rattle.kp_world.specs.Delivering.{log_at}
use Rattle.kp_world.specs.Events.{WorldEvent}
use Rattle.kp_world.specs.Facts.{facts}
use Rattle.kp_world.specs.Message.{sent_of}
use Rattle.kp_world.specs.Run.{Run, IsReached}
use Rattle.kp_world.specs.World.{PartAnswer, Batches, Reply, World, Opening}
use Rattle.kp_headline.specs.Outside.{Said, State, known}

-- ---- what was said, and the world's replies

-- What was said is a part of a reply to its packet.
pub record IsPartOf (packets : List Packet) (replies : List Reply) (x : Said) : Type 0 where
  pub packet : Packet
  pub went_out : slice_get packets x.packet ≡ Some packet
  pub parts : List Sending
  pub demand : packet.demand ≡ Produce parts
  pub part : Contains parts x.part
  pub reply : Reply
  pub given : Contains replies reply
  pub correlation : reply.correlation ≡ packet.correlation
  pub answers : List PartAnswer
  pub content : reply.content ≡ Batches answers
  pub answer : Contains answers (record { partition = x.part.partition; answer = x.answer })

-- What was answered to a request for an id is a reply to it.
pub record IsGiven (packets : List Packet) (replies : List Reply) (reply : Reply) : Type 0 where
  pub packet : Packet
  pub sent : Contains packets packet
  pub partition : ℕ
  pub demand : packet.demand ≡ InitProducerId partition
  pub named : reply.response.correlation ≡ pos packet.correlation
  pub given : Contains replies reply

-- What was said may be said again, and the log stays.
abbrev pub MayAgain : List History → Said → Type 0
MayAgain logs x =
    BrokerStep (log_at x.part.partition logs) (sent_of x.part.batch) x.answer
    (log_at x.part.partition logs)

-- ---- what is in flight

-- what the core remembers of a request that went out
abbrev pub remembered : Demand Sending → Demand ℕ
remembered (Produce xs) = Produce (partitions_in xs)
remembered (InitProducerId p) = InitProducerId p

-- Whatever went out under the request's correlation id is this request.
pub record IsOfPackets (next : ℕ) (packets : List Packet) (r : Request) : Type 0 where
  pub used : r.correlation < next
  pub same : (x : Packet)
      → Contains packets x
      → x.correlation ≡ r.correlation
      → r.demand ≡ remembered x.demand

pub record Remembers (s : Core) (packets : List Packet) : Type 0 where
  pub used : AllByRecursion (λ x. x.correlation < s.correlation) packets
  pub requests : AllByRecursion (IsOfPackets s.correlation packets) s.requests

-- ---- matching

pub record Matches (a : State) (w : World) : Type 0 where
  pub same : facts w ≡ known a
  pub shut : w.is_shut ≡ a.outside.is_shut
  pub said : AllByRecursion (IsPartOf a.outside.packets w.replies) a.outside.said
  pub answered : AllByRecursion (IsGiven a.outside.packets w.replies) a.outside.answered
  pub again : AllByRecursion (MayAgain a.outside.logs) a.outside.said
  pub in_flight : Remembers a.core a.outside.packets

-- Events lead from this world to one that matches.
pub record CanFollow (w : World) (b : State) : Type 0 where
  pub events : List WorldEvent
  pub world : World
  pub run : Run w events world
  pub matches : Matches b world

-- A world of a run matches.
pub record IsMatched (o : Opening) (b : State) : Type 0 where
  pub events : List WorldEvent
  pub world : World
  pub reached : IsReached o events world
  pub matches : Matches b world
