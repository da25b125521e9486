-- What is fed to a producer's connection, and heard.
use Rattle.std.specs.Prelude.{◌≡◌, ℕ, ℤ, pos, List, [], ◌∷◌, ◌++◌, length, map, Option, Some, None, Result, Ok, Err, Bool, false, if◌then◌else◌}
use Rattle.std.specs.List.{flat_map, range_with_len}
use Rattle.std.specs.Ordering.{int_eq}
use Rattle.kp_cluster.specs.Cluster.{Cluster, leader_of}
use Rattle.kp_embed.specs.Going.{Acts, BeginsUnder, if_core}
use Rattle.kp_embed.specs.Lines.{AtNode, line_at}
use Rattle.kp_embed.specs.Producer.{Producer, apart}
use Rattle.kp_embed.specs.declared.line.Line.{Line}
use Rattle.kp_embed.specs.declared.line.Question.{Question}
use Rattle.kp_embed.specs.declared.line.Question.TheVariants.{Metadata, ProducerId}
use Rattle.kp_frames.specs.Stream.{frame}
use Rattle.kp_hello.specs.Chart.{Charted, chart_given}
use Rattle.kp_hello.specs.Hello.{producer_id_given}
use Rattle.kp_hello.specs.declared.fault.HandshakeFault.{HandshakeFault}
use Rattle.kp_rules.specs.declared.fault.CoreFault.{CoreFault}
use Rattle.kp_rules.specs.declared.ticked.Replied.{Replied}
use Rattle.kp_rules.specs.Calls.{Call, Disconnect, Lead, Reply}
use Rattle.kp_wire.specs.Fields.{int32}
use Rattle.kp_wire.specs.Reading.{Read}

-- ---- which question an answer is to

abbrev pub correlation_of : Question → ℤ
correlation_of Metadata = pos 0
correlation_of ProducerId = pos 1

abbrev pub is_under : ℤ → Read ℤ → Bool
is_under id (Ok x) = int_eq x.0 id
is_under id (Err fault) = false

-- what was asked, where the content is an answer to it by its correlation id
abbrev pub answered : Option Question → List ℕ → Option Question
answered None content = None
answered (Some q) content = if is_under (correlation_of q) (int32.read content) then Some q else None

-- ---- who leads

-- the node that the core is told where a partition has no leader: no connection is to it
abbrev pub NOBODY : ℕ
NOBODY = 4294967295

abbrev pub told_leader : Option ℕ → ℕ
told_leader (Some node) = node
told_leader None = NOBODY

-- The core is told of each of n partitions who leads it, as the cluster has it.
abbrev pub leads : (now : ℕ) → Cluster → ℕ → List Call
leads now cluster n = map (λ p. Lead p (told_leader (leader_of p cluster)) now) (range_with_len 0 n)

-- ---- one answer

-- A chart is followed; an answer that refuses one is no call on the core.
abbrev pub Learns : (now : ℕ) → Result Charted HandshakeFault → List Call → Producer → Type 0
Learns now (Ok chart) calls new = calls ≡ if_core new.core (leads now new.cluster (length new.counts))
Learns now (Err fault) calls new = calls ≡ []

-- With the id a core is opened, where there is none and it is not too late, of so many partitions as the cluster is known to have;
-- and it is told who leads. An answer that refuses an id is no call.
abbrev pub Opens : (now : ℕ) → Result ℕ HandshakeFault → Producer → List Call → Producer → Type 0
Opens now (Ok id) old calls new =
    (calls ≡ if_core new.core (leads now new.cluster (length new.counts)))
    × (old.core ≡ None → old.is_failed ≡ false → BeginsUnder old.config old.names (length new.cluster.leaders) id calls new.core)
Opens now (Err fault) old calls new = calls ≡ []

-- An answer to what was asked, or else a reply for the core; what is asked then and not answered.
abbrev pub HearsOne : (now : ℕ) → Option Question → Option Question → List ℕ → (old : Producer) → List Call → Producer → Option Question → Type 0
HearsOne now q (Some Metadata) content old calls new q' = (q' ≡ None) × Learns now (chart_given old.names.topic content) calls new
HearsOne now q (Some ProducerId) content old calls new q' = (q' ≡ None) × Opens now (producer_id_given content) old calls new
HearsOne now q None content old calls new q' = (q' ≡ q) × ((answer : Result Replied CoreFault) × (calls ≡ Reply now content answer ∷ []))

-- ---- one after the other

-- These contents were heard in their order, by these calls on the core.
pub data Hears (now : ℕ) (first : Producer) (q : Option Question) : List (List ℕ) → List Call → Producer → Option Question → Type 0 where
  none : Hears now first q [] [] first q
  one_more : (old new : Producer) (contents : List (List ℕ)) (content : List ℕ) (calls more : List Call) (before after : Option Question)
      → Hears now first q contents calls old before → HearsOne now before (answered before content) content old more new after → Acts old more new
      → Hears now first q (contents ++ content ∷ []) (calls ++ more) new after

-- ---- bytes

abbrev pub frames : List (List ℕ) → List ℕ
frames contents = flat_map frame.spell contents

-- ---- over a line

-- One content was heard over a line, from which it was taken.
pub record HearsOver (now : ℕ) (old : Producer) (line : Line) (content : List ℕ) (new : Producer) (after : Line) : Type 0 where
  pub calls : List Call
  pub acts : Acts old calls new
  pub heard : HearsOne now line.question (answered line.question content) content old calls new after.question
  pub held : after.held ≡ line.held
  pub out : after.out ≡ line.out

-- The frames that were heard are the first of the bytes that were held and fed; what is behind them is held.
pub record HearsAll (now : ℕ) (old : Producer) (line : Line) (bytes : List ℕ) (new : Producer) (after : Line) : Type 0 where
  pub contents : List (List ℕ)
  pub calls : List Call
  pub acts : Acts old calls new
  pub heard : Hears now old line.question contents calls new after.question
  pub first : line.held ++ bytes ≡ frames contents ++ after.held
  pub out : after.out ≡ line.out

-- These bytes were fed to a node's connection, and what is whole of them was heard.
pub record Listens (node now : ℕ) (old : Producer) (bytes : List ℕ) (new : Producer) : Type 0 where
  pub line : Line
  pub after : Line
  pub is : line_at node old.lines ≡ Some line
  pub hears : HearsAll now (apart old) line bytes (apart new) after
  pub lines : AtNode node (Some after) old.lines new.lines

-- An answer was none, or memory was refused: what was heard until then was heard, and then the connection was lost.
pub record GivesUp (node now : ℕ) (old new : Producer) : Type 0 where
  pub calls : List Call
  pub middle : Producer
  pub heard : Acts old calls middle
  pub lost : Acts middle (if_core middle.core (Disconnect node now ∷ [])) new
  pub lines : AtNode node None old.lines new.lines
