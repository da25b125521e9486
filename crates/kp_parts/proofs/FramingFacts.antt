-- A batch of one record can be written, and a request for it fits a frame.
use Rattle.std.proofs.Common.{◌≡◌, ◌≤◌, ℕ, List, [], ◌∷◌, length, map, sum_by, refl, arith}
use Rattle.std.specs.Prelude.{codes}
use Rattle.std.specs.Str.{IsUtf8}
use lib.Utf8.{encode}
use Rattle.std.proofs.lemmas.List.Sums.{sum_by-cons}
use Rattle.kp_batch.specs.declared.record.Record.{Record}
use Rattle.kp_batch.specs.declared.size.TheConstants.{SIZE_LIMIT}
use Rattle.kp_batch.specs.Spelling.{size_of_batch, HasSpelling}
use Rattle.kp_accum.specs.declared.config.Config.{Config}
use Rattle.kp_accum.specs.declared.item.Item.{Item}
use Rattle.kp_accum.specs.Config.{default_config}
use Rattle.kp_accum.specs.Queue.{body_of, size_of}
use Rattle.kp_frames.specs.declared.produce.PartitionProduceData.{PartitionProduceData}
use Rattle.kp_rules.specs.declared.names.Names.{Names}
use Rattle.kp_rules.specs.Framing.{head_of, batch_of, data_of, message_of, FitsPacket}
use Rattle.kp_rules.specs.Next.{Sending}
use Rattle.kp_rules.specs.Records.{HandedBatch}
use Rattle.kp_parts.specs.Written.{IsWritable, produce_packet}
use Rattle.kp_rules.proofs.BatchFitLemmas.{batch_fits, length_spelled, head_fits}
use Rattle.kp_rules.proofs.Evaluation.{evaluated}
use Rattle.kp_rules.proofs.RequestFitLemmas.{produce_fits}
use Rattle.kp_rules.proofs.Scenes.{names, item}

abbrev sending_of : List Item → Sending
sending_of items = record { partition = 0; batch = record { number = 0; id = 1000; sequence = 0; items = items } }

abbrev one : List Item
one = item 0 0 97 ∷ []

abbrev bodies : List Record
bodies = map body_of one

size_is : size_of_batch bodies ≡ 69
unfolding evaluated
size_is = refl

spelled : HasSpelling (batch_of (sending_of one).batch)
spelled =
    let head = head_of (sending_of one).batch in
    batch_fits head bodies (record { moment = omega arith; keys = tt }, tt) (omega arith) (omega (arith, size_is)) (head_fits 1000 0 (omega arith) (omega arith))

client_is_text : IsUtf8 names.client
unfolding encode
client_is_text = (codes "kp", (refl, refl))

topic_is_text : IsUtf8 names.topic
unfolding encode
topic_is_text = (codes "t", (refl, refl))

fits : FitsPacket default_config names (produce_packet 2 (sending_of one ∷ []))
unfolding message_of
fits =
    let data_is : List PartitionProduceData = map data_of (sending_of one ∷ []) in
    let length_is = length_spelled (head_of (sending_of one).batch) bodies in
    let room : sum_by (λ d. length d.records) data_is ≤ 8388608 =
    omega (arith, length_is, size_is, sum_by-cons (λ (d : PartitionProduceData). length d.records) (data_of (sending_of one)) []) in
    let message = produce_fits 2 30000 names.client names.topic data_is (omega arith) (omega arith)
    (omega arith) client_is_text (omega arith) topic_is_text (omega arith) ((0, omega arith, refl), tt) room in
    record { message = message.0; content = message.1; batches = (spelled, tt) }

same_batch : (number id sequence : ℕ) (items : List Item) → number ≡ 0 → id ≡ 1000 → sequence ≡ 0 → items ≡ one
    → (let x : HandedBatch = record { number = number; id = id; sequence = sequence; items = items } in x) ≡ (sending_of one).batch
same_batch number id sequence items e f g h = cc

pub one_batch_fits : (c : Config) (n : Names) (b : HandedBatch) → c ≡ default_config → n ≡ names
    → b.number ≡ 0 → b.id ≡ 1000 → b.sequence ≡ 0 → b.items ≡ item 0 0 97 ∷ []
    → FitsPacket c n (produce_packet 2 (record { partition = 0; batch = b } ∷ []))
one_batch_fits c n b c_is n_is number id sequence items =
    let same : b ≡ (sending_of one).batch = same_batch b.number b.id b.sequence b.items number id sequence items in
    rw (c_is, n_is, same) fits

has_size : size_of one ≤ SIZE_LIMIT
unfolding size_of
has_size = omega (arith, size_is)

writable : IsWritable (sending_of one)
writable = record { partition = omega arith; id = omega arith; sequence = omega arith; some = omega arith; size = has_size }

pub one_batch_is_writable : (b : HandedBatch) → b.number ≡ 0 → b.id ≡ 1000 → b.sequence ≡ 0 → b.items ≡ item 0 0 97 ∷ []
    → IsWritable (record { partition = 0; batch = b })
one_batch_is_writable b number id sequence items =
    let same : b ≡ (sending_of one).batch = same_batch b.number b.id b.sequence b.items number id sequence items in
    rw same writable
