-- Replies as messages, and packets as a broker sees them.
use Rattle.std.specs.Prelude.{◌≡◌, ℕ, ℤ, pos, negsuc, List, [], ◌∷◌, map, Contains, if◌then◌else◌}
use Rattle.std.specs.List.{AllByRecursion}
use Rattle.std.specs.Ordering.{int_eq}
use Rattle.kp_accum.specs.Queue.{body_of}
use Rattle.kp_frames.specs.declared.produce.PartitionProduceResponse.{PartitionProduceResponse}
use Rattle.kp_frames.specs.declared.response.Response.{Response}
use Rattle.kp_frames.specs.declared.response.ResponseBody.{ResponseBody}
use Rattle.kp_frames.specs.declared.response.ResponseBody.TheVariants.{Produce, InitProducerId}
use Rattle.kp_log.specs.History.{Sent}
use Rattle.kp_rules.specs.Mismatch.{entries_of}
use Rattle.kp_rules.specs.Records.{HandedBatch}
use Rattle.kp_world.specs.World.{PartAnswer, ReplyContent, Batches, Id, names}

-- a batch as a broker sees it
abbrev pub sent_of : HandedBatch → Sent
sent_of b = record { id = b.id; sequence = b.sequence; bodies = map body_of b.items }

-- ---- the messages that say what was answered

-- The entry says what was answered to one of these parts.
pub record Says (parts : List PartAnswer) (entry : PartitionProduceResponse) : Type 0 where
  pub part : PartAnswer
  pub answered : Contains parts part
  pub partition : entry.partition ≡ pos part.partition
  pub code : entry.error_code ≡ part.answer.code
  pub base : entry.base_offset ≡ part.answer.base

-- Entries come in any order, and may be left out. With no error goes the id that was given.
abbrev pub SaysContent : ReplyContent → ResponseBody → Type 0
SaysContent (Batches parts) (Produce x) = AllByRecursion (Says parts) (entries_of x)
SaysContent (Id code id) (InitProducerId x) =
    (x.error_code ≡ code) × (code ≡ pos 0 → x.producer_id ≡ id)
SaysContent content body = ⊥

-- The response answers so the packet with this correlation id. All else in it may be anything: times,
-- and what goes with an error.
pub record Answers (k : ℕ) (content : ReplyContent) (response : Response) : Type 0 where
  pub named : response.correlation ≡ pos k
  pub says : SaysContent content response.body

-- ---- the one that the loopback broker sends

-- a broker that stamps no records answers -1 for the time of the append
abbrev pub part_response : PartAnswer → PartitionProduceResponse
part_response p = record {
  partition = pos p.partition;
  error_code = p.answer.code;
  base_offset = p.answer.base;
  log_append_time_ms = negsuc 0;
}

-- with an id goes epoch 0, with an error -1
abbrev pub epoch_for : ℤ → ℤ
epoch_for code = if int_eq code (pos 0) then pos 0 else negsuc 0

abbrev pub body_of_reply : ReplyContent → ResponseBody
body_of_reply (Batches parts) = Produce (record {
  topics = (record { topic = names.topic; partitions = map part_response parts }) ∷ [];
  throttle_time_ms = pos 0;
})
body_of_reply (Id code id) = InitProducerId (record {
  throttle_time_ms = pos 0;
  error_code = code;
  producer_id = id;
  producer_epoch = epoch_for code;
})

abbrev pub response_of : ℕ → ReplyContent → Response
response_of k content = record { correlation = pos k; body = body_of_reply content }
