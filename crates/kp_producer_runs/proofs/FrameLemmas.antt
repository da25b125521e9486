-- A request for one batch that can be written fits a frame.
use Rattle.std.proofs.Common.{◌≡◌, ◌≤◌, ◌<◌, ◌^◌, ℕ, [], ◌∷◌, length, map, sum_by, refl, arith}
use Rattle.std.specs.Str.{IsUtf8}
use Rattle.std.proofs.lemmas.List.Sums.{sum_by-cons}
use Rattle.kp_batch.specs.Spelling.{HasSpelling, size_of_batch}
use Rattle.kp_accum.specs.declared.config.Config.{Config}
use Rattle.kp_accum.specs.Queue.{body_of, size_of}
use Rattle.kp_frames.specs.declared.produce.PartitionProduceData.{PartitionProduceData}
use Rattle.kp_rules.specs.declared.names.Names.{Names}
use Rattle.kp_rules.specs.Framing.{head_of, batch_of, data_of, message_of, FitsPacket}
use Rattle.kp_rules.specs.Next.{Sending}
use Rattle.kp_parts.specs.Written.{produce_packet}
use Rattle.kp_rules.proofs.BatchFitLemmas.{length_spelled}
use Rattle.kp_rules.proofs.RequestFitLemmas.{produce_fits}

pub one_fits : (c : Config) (n : Names) (k : ℕ) (x : Sending)
    → c.request_timeout_ms < 2 ^ 31 → k < 2 ^ 31
    → length n.client ≤ 249 → IsUtf8 n.client → length n.topic ≤ 249 → IsUtf8 n.topic
    → x.partition < 1024 → size_of x.batch.items ≤ 8388608 → HasSpelling (batch_of x.batch)
    → FitsPacket c n (produce_packet k (x ∷ []))
unfolding message_of size_of
one_fits c n k x time small client client_text topic topic_text place size spelled =
    let length_is = length_spelled (head_of x.batch) (map body_of x.batch.items) in
    let measured : size_of_batch (map body_of x.batch.items) ≤ 8388608 = size in
    let room : sum_by (λ d. length d.records) (data_of x ∷ []) ≤ 8388608 =
    omega (arith, length_is, measured, sum_by-cons (λ (d : PartitionProduceData). length d.records) (data_of x) []) in
    let message = produce_fits k c.request_timeout_ms n.client n.topic (data_of x ∷ []) small time client client_text topic topic_text
    (omega arith) ((x.partition, place, refl), tt) room in
    record { message = message.0; content = message.1; batches = (spelled, tt) }
