-- Small cores for facts: records of one byte at moment 0, in batches of their own.
use Rattle.std.proofs.Common.{ℕ, List, [], ◌∷◌, ℤ, pos, Some, None}
use Rattle.std.specs.Prelude.{codes}
use Rattle.kp_accum.specs.Config.{default_config}
use Rattle.kp_accum.specs.declared.config.Config.{Config}
use Rattle.kp_accum.specs.declared.item.Item.{Item}
use Rattle.kp_frames.specs.declared.produce.PartitionProduceResponse.{PartitionProduceResponse}
use Rattle.kp_frames.specs.declared.produce.TopicProduceResponse.{TopicProduceResponse}
use Rattle.kp_frames.specs.declared.response.Response.{Response}
use Rattle.kp_frames.specs.declared.response.ResponseBody.TheVariants.{Produce}
use Rattle.kp_rules.specs.declared.names.Names.{Names}
use Rattle.kp_rules.specs.Appending.{append_step}
use Rattle.kp_rules.specs.Opening.{new_core}
use Rattle.kp_rules.specs.Records.{Core}
use Rattle.kp_rules.specs.Requesting.{request_step}

abbrev pub names : Names
names = record { topic = codes "t"; client = codes "kp" }

abbrev pub config : Config
config = record default_config { batch_size = 0 }

-- sender 0's item of this number for a partition
abbrev pub item : ℕ → ℕ → ℕ → Item
item p n byte = record {
  sender = 0;
  partition = p;
  number = n;
  at = 0;
  body = record { timestamp = 0; key = None; value = Some (byte ∷ []); headers = [] };
}

-- a core with producer id 1000 and this first correlation id
abbrev pub fresh : (partitions correlation : ℕ) → Core
fresh partitions correlation = new_core config names partitions 1 1000 correlation

abbrev pub with_all : List Item → Core → Core
with_all [] s = s
with_all (i ∷ is) s = with_all is (append_step i s).after

abbrev pub sent_at : ℕ → Core → Core
sent_at now s = (request_step 0 now s).after

-- one partition with two batches, of which the first was sent at moment 0 in request 2
abbrev pub one_sent : Core
one_sent = sent_at 0 (with_all (item 0 0 97 ∷ item 0 1 98 ∷ []) (fresh 1 2))

-- two partitions with a batch each, both sent at moment 0 in request 2
abbrev pub both_sent : Core
both_sent = sent_at 0 (with_all (item 0 0 97 ∷ item 1 0 98 ∷ []) (fresh 2 2))

-- ---- replies

abbrev pub part : (partition : ℕ) → (code base : ℤ) → PartitionProduceResponse
part p code base =
    record { partition = pos p; error_code = code; base_offset = base; log_append_time_ms = pos 0 }

abbrev pub topic : List ℕ → List PartitionProduceResponse → TopicProduceResponse
topic name parts = record { topic = name; partitions = parts }

abbrev pub reply : (correlation : ℕ) → List TopicProduceResponse → Response
reply k topics = record {
  correlation = pos k;
  body = Produce (record { topics = topics; throttle_time_ms = pos 0 });
}

-- a reply to request 2 for this core's topic
abbrev pub answers : List PartitionProduceResponse → Response
answers parts = reply 2 (topic (codes "t") parts ∷ [])
