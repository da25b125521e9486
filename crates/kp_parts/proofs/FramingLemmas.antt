-- What fits a frame can be written.
use Rattle.std.proofs.Common.{◌≡◌, ℕ, ◌^◌, ◌<◌, ◌≤◌, List, [], ◌∷◌, length, map, pos, Some, Ok, Err, IfOk, refl, ap, ◌∙◌, arith}
use Rattle.std.specs.Prelude.{Result}
use Rattle.std.specs.declared.alloc.AllocError.{AllocError}
use Rattle.std.specs.List.{AllByRecursion}
use Rattle.std.specs.Str.{IsUtf8}
use Rattle.std.proofs.lemmas.List.{length-append, length-map}
use Rattle.kp_wire.specs.Fields.{records, FitsArray}
use Rattle.kp_batch.specs.Spelling.{head, summary, HasSpelling}
use Rattle.kp_accum.specs.declared.config.Config.{Config}
use Rattle.kp_accum.specs.Queue.{body_of, size_of}
use Rattle.kp_frames.specs.declared.request.Request.{Request}
use Rattle.kp_frames.specs.declared.request.RequestBody.{RequestBody}
use Rattle.kp_frames.specs.Produce.{partition_data, topic_data, produce_request}
use Rattle.kp_frames.specs.ProducerId.{init_producer_id_request}
use Rattle.kp_frames.specs.Request.{body, known, FitsRequest, spelling}
use Rattle.kp_frames.specs.Stream.{frame}
use Rattle.kp_rules.specs.declared.names.Names.{Names}
use Rattle.kp_rules.specs.Framing.{head_of, batch_of, data_of, body_for, message_of, frame_of, FitsPacket}
use Rattle.kp_rules.specs.Next.{Sending}
use Rattle.kp_rules.specs.Records.{Produce}
use Rattle.kp_parts.specs.Written.{IsWritable, produce_packet, id_packet}
use Rattle.kp_rules.proofs.BatchFitLemmas.{length_spelled}
use Rattle.kp_rules.proofs.RequestFitLemmas.{id_message}

-- ---- a request for batches

writable : (x : Sending) → partition_data.Fits (data_of x) → HasSpelling (batch_of x.batch) → IsWritable x
unfolding partition_data records head summary size_of
writable x fits batch =
    let items = map body_of x.batch.items in
    let numbers = batch.fields.summary.1.1.1.1.0 in
    record {
      partition = fits.0.sfits;
      id = numbers.0.sfits;
      sequence = numbers.1.1.sfits;
      some = omega (arith, batch.fields.some, length-map x.batch.items body_of);
      size = omega (arith, fits.1.0.sfits, length_spelled (head_of x.batch) items);
    }

all_writable : (xs : List Sending) → AllByRecursion partition_data.Fits (map data_of xs) → AllByRecursion (λ x. HasSpelling (batch_of x.batch)) xs
    → AllByRecursion IsWritable xs
all_writable [] fits batches = tt
all_writable (x ∷ xs) fits batches = (writable x fits.0 batches.0, all_writable xs fits.1 batches.1)

-- what the parts of its message need
pub record ArePartsWritable (c : Config) (k : ℕ) (xs : List Sending) : Type 0 where
  pub correlation : k < 2 ^ 31
  pub timeout : c.request_timeout_ms < 2 ^ 31
  pub batches : AllByRecursion IsWritable xs

pub parts_writable : (c : Config) (names : Names) (correlation : ℕ) (xs : List Sending)
    → FitsPacket c names (produce_packet correlation xs) → ArePartsWritable c correlation xs
unfolding message_of FitsRequest known body produce_request topic_data FitsArray
parts_writable c names correlation xs fits =
    let request = fits.message.1.1.1 in
    let topics = request.1.1.1.1 in
    record {
      correlation = fits.message.0.sfits;
      timeout = request.1.1.0.sfits;
      batches = all_writable xs topics.0.1.1 fits.batches;
    }

pub message_is : (c : Config) (names : Names) (correlation : ℕ) (xs : List Sending) (asked : RequestBody) (message : Request)
    → asked ≡ body_for c names (Produce xs) → message ≡ record { correlation = pos correlation; client = Some names.client; body = asked }
    → message ≡ message_of c names (produce_packet correlation xs)
unfolding message_of
message_is c names correlation xs asked message body_is is =
    let with_body : RequestBody → Request = λ b. record { correlation = pos correlation; client = Some names.client; body = b } in
    is ∙ ap with_body body_is

-- ---- a request for an id

pub id_message_fits : (correlation : ℕ) (client : List ℕ) → correlation < 2 ^ 31 → length client < 2 ^ 15 → IsUtf8 client
    → FitsRequest (id_message correlation client)
unfolding FitsRequest known body init_producer_id_request
id_message_fits correlation client small short text =
    (record { sfits = small }, ((record { sfits = short }, (refl, text)), (refl, (omega arith, record { sfits = omega arith }))))

pub id_content_fits : (correlation : ℕ) (client : List ℕ) → length client < 2 ^ 15 → length (spelling (id_message correlation client)) ≤ 16777216
unfolding known body spelling init_producer_id_request
id_content_fits correlation client short = simp length-append (omega arith)

-- its frame is that of its packet, under whatever configuration and for whatever partition
pub id_frame_is : (names : Names) (correlation : ℕ) (message : Request) (r : Result (List ℕ) AllocError)
    → message ≡ id_message correlation names.client → IfOk r (λ bytes. bytes ≡ frame.spell (spelling message))
    → IfOk r (λ bytes. (c : Config) (p : ℕ) → bytes ≡ frame_of c names (id_packet correlation p))
unfolding message_of
id_frame_is names correlation message (Ok bytes) is told =
    λ c p. told ∙ ap (λ m. frame.spell (spelling m)) is
id_frame_is names correlation message (Err e) is told = tt
