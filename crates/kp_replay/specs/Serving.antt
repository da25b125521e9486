-- What becomes of a request at the broker of a world, by its bytes alone.
use Rattle.std.specs.Prelude.{◌≡◌, ℕ, ◌+◌, ℤ, pos, negsuc, List, [], ◌∷◌, map, nat_abs, Result, slice_index_or, slice_set}
use Rattle.kp_batch.specs.Reading.{batch_at}
use Rattle.kp_batch.specs.declared.batch.Batch.{Batch}
use Rattle.kp_batch.specs.declared.fault.BatchFault.{BatchFault}
use Rattle.kp_frames.specs.Response.{FitsResponse, spelling}
use Rattle.kp_frames.specs.Stream.{frame}
use Rattle.kp_frames.specs.declared.produce.PartitionProduceData.{PartitionProduceData}
use Rattle.kp_frames.specs.declared.produce.PartitionProduceResponse.{PartitionProduceResponse}
use Rattle.kp_frames.specs.declared.produce.TopicProduceData.{TopicProduceData}
use Rattle.kp_frames.specs.declared.request.RequestBody.{RequestBody}
use Rattle.kp_frames.specs.declared.request.RequestBody.TheVariants as request
use Rattle.kp_frames.specs.declared.response.ResponseBody.{ResponseBody}
use Rattle.kp_frames.specs.declared.response.ResponseBody.TheVariants as response
use Rattle.kp_log.specs.BrokerStep.{Answered, answered, error_of}
use Rattle.kp_log.specs.Log.{Log, empty}
use Rattle.kp_log.specs.SequenceRule.{offered}
use Rattle.kp_rules.specs.declared.outgoing.Outgoing.{Outgoing}
use Rattle.kp_world.specs.Line as line
use Rattle.kp_world.specs.Message.{epoch_for}
use Rattle.kp_world.specs.World.{FIRST_ID, names}
use Rattle.kp_world.specs.declared.event.Treatment.{Treatment}
use Rattle.kp_world.specs.declared.event.Treatment.TheVariants.{Judged, Refused, Late}
use Rattle.kp_replay.specs.Packets.{IsAsked}

-- ---- batches

-- an answer, and the log after it
pub record Taken : Type 0 where
  pub answer : Answered
  pub log : Log

-- what the log does with bytes that are so treated
abbrev pub taken : Treatment → Log → Result Batch BatchFault → Taken
taken Judged log batch =
    let made = offered log batch in record { answer = answered made.answer; log = made.log }
taken (Refused code) log batch = record { answer = error_of code; log = log }
taken (Late code) log batch = record { answer = error_of code; log = (offered log batch).log }

abbrev pub taken_at : Treatment → List Log → PartitionProduceData → Taken
taken_at how logs d =
    taken how (slice_index_or logs (nat_abs d.partition) empty) (batch_at d.records)

abbrev pub with_taken : Treatment → List Log → PartitionProduceData → List Log
with_taken how logs d = slice_set logs (nat_abs d.partition) (taken_at how logs d).log

-- the batches in the request's order, each by the logs as those before it left them
abbrev pub logs_after : Treatment → List Log → List PartitionProduceData → List Log
logs_after how logs [] = logs
logs_after how logs (d ∷ ds) = logs_after how (with_taken how logs d) ds

abbrev pub entry_of : PartitionProduceData → Answered → PartitionProduceResponse
entry_of d a = record {
  partition = d.partition;
  error_code = a.code;
  base_offset = a.base;
  log_append_time_ms = negsuc 0;
}

abbrev pub entries_after : Treatment → List Log → List PartitionProduceData
    → List PartitionProduceResponse
entries_after how logs [] = []
entries_after how logs (d ∷ ds) =
    entry_of d (taken_at how logs d).answer ∷ entries_after how (with_taken how logs d) ds

abbrev pub batches_body : List PartitionProduceResponse → ResponseBody
batches_body entries = response.Produce (record {
  topics = (record { topic = names.topic; partitions = entries }) ∷ [];
  throttle_time_ms = pos 0;
})

-- an entry, as a line tells it
abbrev pub entry_line : PartitionProduceResponse → line.AnswerPart
entry_line e = record { partition = nat_abs e.partition; code = e.error_code; base = e.base_offset }

-- Batches for one topic come to these logs: the logs after them, and what is answered and told.
pub record AreServed (how : Treatment) (j : ℕ) (before : List Log) (topics : List TopicProduceData)
    (after : List Log) (answer : ResponseBody) (l : line.Line) : Type 0 where
  pub topic : TopicProduceData
  pub one : topics ≡ topic ∷ []
  pub logs : after ≡ logs_after how before topic.partitions
  pub body : answer ≡ batches_body (entries_after how before topic.partitions)
  pub told : l ≡ line.AnswerBatches j (map entry_line (entries_after how before topic.partitions))

-- ---- ids

abbrev pub id_code : Treatment → ℤ
id_code Judged = pos 0
id_code (Refused code) = code
id_code (Late code) = code

abbrev pub id_told : Treatment → ℕ → ℤ
id_told Judged drawn = pos (FIRST_ID + drawn)
id_told (Refused code) drawn = negsuc 0
id_told (Late code) drawn = negsuc 0

-- how many were drawn then
abbrev pub drawn_after : Treatment → ℕ → ℕ
drawn_after Judged drawn = drawn + 1
drawn_after (Refused code) drawn = drawn
drawn_after (Late code) drawn = drawn + 1

abbrev pub id_body : ℤ → ℤ → ResponseBody
id_body code id = response.InitProducerId (record {
  throttle_time_ms = pos 0;
  error_code = code;
  producer_id = id;
  producer_epoch = epoch_for code;
})

-- A request for an id comes, where so many were drawn.
pub record IsIdServed (how : Treatment) (j before after : ℕ) (answer : ResponseBody) (l : line.Line)
    : Type 0 where
  pub drawn : after ≡ drawn_after how before
  pub body : answer ≡ id_body (id_code how) (id_told how before)
  pub told : l ≡ line.AnswerInit j (id_code how) (id_told how before)

-- ---- a request

-- The request is answered so by the reply with this number.
abbrev pub IsServed : Treatment → ℕ → List Log → ℕ → RequestBody
    → List Log → ℕ → ResponseBody → line.Line → Type 0
IsServed how j logs drawn (request.Produce r) logs' drawn' body l =
    AreServed how j logs r.topics logs' body l × (drawn' ≡ drawn)
IsServed how j logs drawn (request.InitProducerId r) logs' drawn' body l =
    IsIdServed how j drawn drawn' body l × (logs' ≡ logs)
IsServed how j logs drawn (request.Metadata r) logs' drawn' body l =
    IsIdServed how j drawn drawn' body l × (logs' ≡ logs)

-- ---- a packet

-- A packet comes: the request in it is served, and the frame of what is answered is the reply with this
-- number.
pub record Serves (how : Treatment) (j : ℕ) (before : List Log) (drawn : ℕ) (packet : Outgoing)
    (after : List Log) (count : ℕ) (bytes : List ℕ) (l : line.Line) : Type 0 where
  pub request : RequestBody
  pub answer : ResponseBody
  pub asked : IsAsked packet.bytes request
  pub served : IsServed how j before drawn request after count answer l
  pub fits : FitsResponse (record { correlation = pos packet.correlation; body = answer })
  pub spelled : bytes
      ≡ frame.spell (spelling (record { correlation = pos packet.correlation; body = answer }))
