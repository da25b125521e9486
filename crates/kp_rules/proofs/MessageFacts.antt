-- Requests as bytes: a batch of one record, and the request for an id.
use Rattle.std.proofs.Common.{◌≡◌, ℕ, List, [], ◌∷◌, ◌++◌, refl}
use Rattle.kp_wire.specs.Checksum.{bits, number, plus, remainder, message, dividend, crc}
use Rattle.kp_wire.specs.Fields.{records, spell_array}
use Rattle.kp_batch.specs.Spelling.{front, head, summary, covered, front_of}
use Rattle.kp_batch.specs.Spelling as batch
use Rattle.kp_accum.specs.Config.{default_config}
use Rattle.kp_frames.specs.Produce.{partition_data, topic_data, produce_request}
use Rattle.kp_frames.specs.ProducerId.{init_producer_id_request}
use Rattle.kp_frames.specs.Request.{known, body, spelling}
use Rattle.kp_frames.specs.Stream.{frame}
use Rattle.kp_rules.specs.Next.{Sending}
use Rattle.kp_rules.specs.Records.{Produce, InitProducerId}
use Rattle.kp_rules.specs.Requesting.{Packet}
use Rattle.kp_rules.specs.Framing.{message_of, frame_of}
use Rattle.kp_rules.proofs.Evaluation.{evaluated}
use Rattle.kp_rules.proofs.Scenes.{names, item}

abbrev written : Packet → List ℕ
written o = frame_of default_config names o

abbrev zeros : List ℕ
zeros = 0 ∷ 0 ∷ 0 ∷ 0 ∷ 0 ∷ 0 ∷ 0 ∷ 0 ∷ []

-- ---- a Produce request, its batch under producer id 1000

abbrev sending : Sending
sending = record {
  partition = 0;
  batch = record { number = 0; id = 1000; sequence = 0; items = item 0 0 97 ∷ [] };
}

-- size, api key 0 in version 3, correlation id 2, client "kp", no transaction, acks -1, 30000 ms
abbrev head_bytes : List ℕ
head_bytes =
    0 ∷ 0 ∷ 0 ∷ 108 ∷ 0 ∷ 0 ∷ 0 ∷ 3 ∷ 0 ∷ 0 ∷ 0 ∷ 2 ∷ 0 ∷ 2 ∷ 107 ∷ 112
    ∷ 255 ∷ 255 ∷ 255 ∷ 255 ∷ 0 ∷ 0 ∷ 117 ∷ 48 ∷ []

-- one topic "t", one partition 0, a batch of 69 bytes
abbrev topic_bytes : List ℕ
topic_bytes =
    0 ∷ 0 ∷ 0 ∷ 1 ∷ 0 ∷ 1 ∷ 116 ∷ 0 ∷ 0 ∷ 0 ∷ 1 ∷ 0 ∷ 0 ∷ 0 ∷ 0 ∷ 0 ∷ 0 ∷ 0 ∷ 69 ∷ []

-- base offset 0, length 57, leader's epoch -1, magic 2, the checksum; attributes and last offset
-- delta 0, two timestamps 0, producer id 1000, epoch and base sequence 0, one record of value "a"
abbrev batch_bytes : List ℕ
batch_bytes =
    zeros ++ 0 ∷ 0 ∷ 0 ∷ 57 ∷ 255 ∷ 255 ∷ 255 ∷ 255 ∷ 2 ∷ 139 ∷ 133 ∷ 104 ∷ 2
    ∷ 0 ∷ 0 ∷ 0 ∷ 0 ∷ 0 ∷ 0 ∷ (zeros ++ zeros)
    ++ 0 ∷ 0 ∷ 0 ∷ 0 ∷ 0 ∷ 0 ∷ 3 ∷ 232 ∷ 0 ∷ 0 ∷ 0 ∷ 0 ∷ 0 ∷ 0 ∷ 0 ∷ 0 ∷ 0 ∷ 1
    ∷ 14 ∷ 0 ∷ 0 ∷ 0 ∷ 1 ∷ 2 ∷ 97 ∷ 0 ∷ []

pub a_batch_goes_out_as_these_bytes :
    written (record { correlation = 2; demand = Produce (sending ∷ []) })
    ≡ head_bytes ++ topic_bytes ++ batch_bytes
unfolding evaluated bits number plus remainder message dividend crc records spell_array front head summary covered front_of batch.spelling partition_data topic_data produce_request known body spelling frame message_of
a_batch_goes_out_as_these_bytes = refl

-- ---- an InitProducerId request: api key 22 in version 0, and the longest transaction timeout

pub an_id_is_asked_for_by_these_bytes :
    written (record { correlation = 3; demand = InitProducerId 0 })
    ≡ 0 ∷ 0 ∷ 0 ∷ 18 ∷ 0 ∷ 22 ∷ 0 ∷ 0 ∷ 0 ∷ 0 ∷ 0 ∷ 3 ∷ 0 ∷ 2 ∷ 107 ∷ 112
    ∷ 255 ∷ 255 ∷ 127 ∷ 255 ∷ 255 ∷ 255 ∷ []
unfolding evaluated init_producer_id_request known body spelling frame message_of
an_id_is_asked_for_by_these_bytes = refl
