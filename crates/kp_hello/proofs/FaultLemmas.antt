-- An answer never gives that the stream failed.
use Rattle.std.proofs.Common.{◌≡◌, ℕ, Bool, true, false, List, [], ◌∷◌, length, ℤ, Result, Ok, Err, refl, sym, subst, ◌∙◌, inl, inr}
use Rattle.std.specs.Prelude.{nat_abs, int_lt, pos, not, ◌||◌, if◌then◌else◌}
use Rattle.std.specs.Ordering.{int_eq}
use Rattle.std.specs.Str.{bytes_eq}
use Rattle.kp_wire.specs.Reading.{◌>>=◌, refuse}
use Rattle.kp_wire.proofs.ReadLemmas.{no_fault, error_is, bind_err}
use Rattle.kp_frames.specs.declared.api.Api.TheVariants as api
use Rattle.kp_frames.specs.declared.fault.FrameFault.{FrameFault}
use Rattle.kp_frames.specs.declared.fault.FrameFault.TheVariants as frame
use Rattle.kp_frames.specs.declared.metadata.TopicMetadata.{TopicMetadata}
use Rattle.kp_frames.specs.declared.producer_id.InitProducerIdResponse.{InitProducerIdResponse}
use Rattle.kp_frames.specs.declared.response.Response.{Response}
use Rattle.kp_frames.specs.declared.response.ResponseBody.{ResponseBody}
use Rattle.kp_frames.specs.declared.response.ResponseBody.TheVariants.{Produce, Metadata, InitProducerId}
use Rattle.kp_frames.specs.Response.{response_at}
use Rattle.kp_hello.specs.declared.fault.HandshakeFault.{HandshakeFault}
use Rattle.kp_hello.specs.declared.fault.HandshakeFault.TheVariants.{Io, BadAnswer, Refused}
use Rattle.kp_hello.specs.Fault.{of_frame}
use Rattle.kp_hello.specs.Hello.{in_handshake, are_numbered, only_topic, topics_of, given_id, partitions_judged, metadata_judged, producer_id_judged, metadata_given, producer_id_given}

-- what is known of the fault of one step, or else of the next
either : {A B : Type 0} (P : HandshakeFault → Type 0) (r : Result A HandshakeFault) (f : A → Result B HandshakeFault) (e : HandshakeFault) → (r ≡ Err e → P e) → ((x : A) → f x ≡ Err e → P e) → (r >>= f) ≡ Err e → P e
either P r f e now later h = elim (bind_err r f e h) [ inl is ↦ now is | inr is ↦ later is.0 is.2 ]

-- Only the stream fails.
abbrev NotIo : HandshakeFault → Type 0
NotIo fault = fault ≡ Io → ⊥

refused_so : (b : Bool) (fault e : HandshakeFault) → NotIo fault → refuse b fault ≡ Err e → NotIo e
refused_so true fault e not h = λ io. not (error_is {A = Unit {0}} fault e h ∙ io)
refused_so false fault e not h = absurd (no_fault e tt (sym h))

bad_not : NotIo BadAnswer
bad_not e = cc

refused_not : (code : ℤ) → NotIo (Refused code)
refused_not code e = cc

read_not : {A : Type 0} (read : Result A FrameFault) (e : HandshakeFault) → in_handshake read ≡ Err e → NotIo e
read_not (Ok x) e h = absurd cc
read_not (Err fault) e h = λ io. at fault (error_is (of_frame fault) e h ∙ io)
  where
    at : (f : FrameFault) → of_frame f ≡ Io → ⊥
    at frame.Short e = cc
    at frame.Trailing e = cc
    at frame.UnknownApi e = cc
    at frame.UnknownVersion e = cc
    at (frame.Wire fault) e = cc
    at frame.TooLarge e = cc
    at frame.OutOfMemory e = cc
    at frame.Mismatch e = cc

topic_not : (name : List ℕ) (topics : List TopicMetadata) (e : HandshakeFault) → only_topic name topics ≡ Err e → NotIo e
topic_not name [] e h = subst NotIo (error_is {A = TopicMetadata} BadAnswer e h) bad_not
topic_not name (topic ∷ []) e h = at (bytes_eq topic.name name) h
  where
    at : (b : Bool) → (if b then Ok topic else Err BadAnswer) ≡ Err e → NotIo e
    at true h' = absurd (no_fault e topic (sym h'))
    at false h' = subst NotIo (error_is {A = TopicMetadata} BadAnswer e h') bad_not
topic_not name (topic ∷ other ∷ topics) e h = subst NotIo (error_is {A = TopicMetadata} BadAnswer e h) bad_not

id_not : (body : ResponseBody) (e : HandshakeFault) → given_id body ≡ Err e → NotIo e
id_not (Produce r) e h = subst NotIo (error_is {A = InitProducerIdResponse} BadAnswer e h) bad_not
id_not (Metadata r) e h = subst NotIo (error_is {A = InitProducerIdResponse} BadAnswer e h) bad_not
id_not (InitProducerId r) e h = absurd (no_fault e r (sym h))

partitions_not : (topic : List ℕ) (r : Response) (e : HandshakeFault) → partitions_judged topic r ≡ Err e → NotIo e
unfolding partitions_judged
partitions_not topic r e h =
    either NotIo _ _ e (refused_so (not (int_eq r.correlation (pos 0))) BadAnswer e bad_not) (λ _. either NotIo _ _ e (topic_not topic (topics_of r.body) e) (λ t.
    either NotIo _ _ e (refused_so (not (int_eq t.error_code (pos 0))) (Refused t.error_code) e (refused_not t.error_code)) (λ _.
    either NotIo _ _ e (refused_so (not (are_numbered t.partitions)) BadAnswer e bad_not) (λ _ h'. absurd (no_fault e t.partitions (sym h')))))) h

metadata_not : (topic : List ℕ) (r : Response) (e : HandshakeFault) → metadata_judged topic r ≡ Err e → NotIo e
unfolding metadata_judged
metadata_not topic r e h = either NotIo _ _ e (partitions_not topic r e) (λ ps h'. absurd (no_fault e (length ps) (sym h'))) h

producer_id_not : (r : Response) (e : HandshakeFault) → producer_id_judged r ≡ Err e → NotIo e
unfolding producer_id_judged
producer_id_not r e h =
    either NotIo _ _ e (refused_so (not (int_eq r.correlation (pos 1))) BadAnswer e bad_not) (λ _. either NotIo _ _ e (id_not r.body e) (λ t.
    either NotIo _ _ e (refused_so (not (int_eq t.error_code (pos 0))) (Refused t.error_code) e (refused_not t.error_code)) (λ _.
    either NotIo _ _ e (refused_so (int_lt t.producer_id (pos 0) || not (int_eq t.producer_epoch (pos 0))) BadAnswer e bad_not) (λ _ h'. absurd (no_fault e (nat_abs t.producer_id) (sym h')))))) h

pub metadata_no_io : (topic content : List ℕ) → metadata_given topic content ≡ Err Io → ⊥
unfolding metadata_given
metadata_no_io topic content h =
    either NotIo _ _ Io (read_not (response_at api.Metadata content) Io) (λ r. metadata_not topic r Io) h refl

pub producer_id_no_io : (content : List ℕ) → producer_id_given content ≡ Err Io → ⊥
unfolding producer_id_given
producer_id_no_io content h =
    either NotIo _ _ Io (read_not (response_at api.InitProducerId content) Io) (λ r. producer_id_not r Io) h refl
