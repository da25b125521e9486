-- All that can come about, whatever the network loses, repeats and reorders, for any
-- honest broker.
use Rattle.std.specs.Prelude.{◌≡◌, ℕ, List, [], ◌∷◌, ◌++◌, map, length, Option, Some, slice_get}
use Rattle.kp_frames.specs.declared.response.Response.{Response}
use Rattle.kp_log.specs.declared.stored.Stored.{Stored}
use Rattle.kp_rules.specs.Opening.{MayOpen}
use Rattle.kp_rules.specs.Requesting.{Packet}
use Rattle.kp_world.specs.Events.{WorldEvent, Deliver, Other}
use Rattle.kp_world.specs.Client.{client, has_partition, only_if}
use Rattle.kp_world.specs.Delivering.{Delivery, Delivers, AreOthers, logs_with_others}
use Rattle.kp_world.specs.Line.{Line, AnswerPart, AnswerBatches, AnswerInit}
use Rattle.kp_world.specs.Message.{Answers}
use Rattle.kp_world.specs.Noting.{only_noted}
use Rattle.kp_world.specs.World.{PartAnswer, ReplyContent, Batches, Id, Reply, World, Opening, opening}

-- ---- a packet comes

abbrev pub answer_part : PartAnswer → AnswerPart
answer_part p = record { partition = p.partition; code = p.answer.code; base = p.answer.base }

abbrev pub answer_line : ℕ → ReplyContent → Line
answer_line j (Batches parts) = AnswerBatches j (map answer_part parts)
answer_line j (Id code id) = AnswerInit j code id

abbrev pub reply_to : Packet → Delivery → Response → Reply
reply_to o d response =
    record { correlation = o.correlation; content = d.content; response = response }

-- What was answered to the packet is the next reply.
unfoldable pub with_delivery : Packet → Delivery → Response → World → World
with_delivery o d response w = only_noted (answer_line (length w.replies) d.content ∷ []) (record w {
  logs = d.logs;
  ids = d.ids;
  replies = w.replies ++ reply_to o d response ∷ [];
})

-- other producers' records come in between
unfoldable pub with_others_at : ℕ → List Stored → World → Option World
with_others_at p records w =
    only_if (has_partition p w)
    (only_noted [] (record w { logs = logs_with_others p records w.logs }))

-- ---- a step

-- Any packet that ever went out comes, the broker does with it what it may, and says so in any message
-- that does.
pub record Arrives (w : World) (k : ℕ) (v : World) : Type 0 where
  pub packet : Packet
  pub went_out : slice_get w.packets k ≡ Some packet
  pub delivery : Delivery
  pub honest : Delivers w packet.demand delivery
  pub response : Response
  pub answers : Answers packet.correlation delivery.content response
  pub after_is : v ≡ with_delivery packet delivery response w

-- what the producer's events do
abbrev pub Producer : Type 0
Producer = WorldEvent → World → Option World

abbrev pub StepsBy : Producer → World → WorldEvent → World → Type 0
StepsBy producer w (Deliver k) v = Arrives w k v
StepsBy producer w (Other p records) v =
    AreOthers w.ids records × (with_others_at p records w ≡ Some v)
StepsBy producer w e v = producer e w ≡ Some v

unfoldable pub Steps : World → WorldEvent → World → Type 0
Steps w e v = StepsBy client w e v

-- ---- a run: a list of steps

abbrev pub RunBy : (World → WorldEvent → World → Type 0) → World → List WorldEvent → World → Type 0
RunBy steps w [] v = v ≡ w
RunBy steps w (e ∷ es) v = (middle : World) × steps w e middle × RunBy steps middle es v

unfoldable pub Run : World → List WorldEvent → World → Type 0
Run w es v = RunBy Steps w es v

-- What a run may begin with.
abbrev pub MayBegin : Opening → Type 0
MayBegin o = MayOpen o.config o.names o.partitions o.senders o.id o.correlation

-- The world is one to which these events lead.
pub record IsReached (o : Opening) (es : List WorldEvent) (w : World) : Type 0 where
  pub may_begin : MayBegin o
  pub run : Run (opening o) es w
