-- What a batch must be to be written into a request, and a request by what it asks for.
use Rattle.std.specs.Prelude.{ℕ, ◌^◌, ◌<◌, ◌≤◌, List, length}
use Rattle.kp_batch.specs.declared.size.TheConstants.{SIZE_LIMIT}
use Rattle.kp_accum.specs.Queue.{size_of}
use Rattle.kp_rules.specs.Records.{Produce, InitProducerId}
use Rattle.kp_rules.specs.Next.{Sending}
use Rattle.kp_rules.specs.Requesting.{Packet}

-- Its numbers are those of the message's fields, and it has items, whose batch has a size.
pub record IsWritable (x : Sending) : Type 0 where
  pub partition : x.partition < 2 ^ 31
  pub id : x.batch.id < 2 ^ 63
  pub sequence : x.batch.sequence < 2 ^ 31
  pub some : 0 < length x.batch.items
  pub size : size_of x.batch.items ≤ SIZE_LIMIT

-- ---- packets

abbrev pub produce_packet : ℕ → List Sending → Packet
produce_packet correlation xs = record { correlation = correlation; demand = Produce xs }

abbrev pub id_packet : ℕ → ℕ → Packet
id_packet correlation p = record { correlation = correlation; demand = InitProducerId p }
