-- Parts and topics of a request that are taken one after the other.
use Rattle.std.proofs.Common.{◌≡◌, ◌∙◌, ℕ, zero, suc, ◌+◌, ◌<◌, ◌≤◌, List, [], ◌∷◌, ◌++◌, length, map, take, drop, get_or, refl, ap, sym, subst, pos, Option, rules, arith}
use Rattle.std.specs.Prelude.{fold, scan, flat_map, Result, Ok, Err, OnErr}
use Rattle.std.specs.List.{AllByRecursion}
use Rattle.std.proofs.lemmas.List.{append_assoc, map-append, take_more, take-append-drop, take_all, length-map}
use Rattle.std.proofs.lemmas.List.Sums.{fold-append}
use Rattle.std.proofs.lemmas.List.Concat.{flat_map-cons}
use Rattle.std.proofs.lemmas.Grind.{flat_map-append}
use Rattle.kp_frames.specs.declared.produce.PartitionProduceData.{PartitionProduceData}
use Rattle.kp_frames.specs.declared.produce.PartitionProduceResponse.{PartitionProduceResponse}
use Rattle.kp_frames.specs.declared.produce.ProduceRequest.{ProduceRequest}
use Rattle.kp_frames.specs.declared.produce.TopicProduceData.{TopicProduceData}
use Rattle.kp_frames.specs.declared.produce.TopicProduceResponse.{TopicProduceResponse}
use Rattle.kp_frames.specs.Produce.{partition_response, topic_data, topic_response, produce_request, produce_response}
use Rattle.kp_log.specs.declared.whim.Whim.{Whim}
use Rattle.kp_wire.specs.Fields.{FitsArray, int32}
use Rattle.kp_wire.specs.Strings.{string}
use Rattle.kp_wire.proofs.ListLemmas.{all_append, drop_here}
use Rattle.kp_broker.specs.Answering.{TakesSome}
use Rattle.kp_broker.specs.Answers.{Part, part_in, parts_in, taken, after_parts, part_answer, part_answers, parts_of, topic_answer, topic_answers}
use Rattle.kp_broker.specs.Broker.{Broker}

-- ---- lists

pub scan-append : {S X Y : Type 0} (next : S → X → S) (out : S → X → Y) (a : S) (xs ys : List X) → scan next out a (xs ++ ys) ≡ scan next out a xs ++ scan next out (fold next a xs) ys
scan-append next out a [] ys = refl
scan-append next out a (x ∷ xs) ys = ap (λ (zs : List _). out a x ∷ zs) (scan-append next out (next a x) xs ys)

pub length-scan : {S X Y : Type 0} (next : S → X → S) (out : S → X → Y) (a : S) (xs : List X) → length (scan next out a xs) ≡ length xs
length-scan next out a [] = refl
length-scan next out a (x ∷ xs) = ap suc (length-scan next out (next a x) xs)

pub all_at : {A : Type 0} (P : A → Type 0) (xs : List A) (i : ℕ) (d : A) → i < length xs → AllByRecursion P xs → P (get_or xs i d)
all_at P [] i d lt all = absurd (omega arith)
all_at P (x ∷ xs) zero d lt all = all.0
all_at P (x ∷ xs) (suc i) d lt all = all_at P xs i d (omega arith) all.1

-- one element more
pub take_next : {A : Type 0} (xs : List A) (i : ℕ) (x : A) → i < length xs → x ≡ get_or xs i x → take (i + 1) xs ≡ take i xs ++ x ∷ []
take_next {A = A} xs i x lt is = take_more xs i x lt ∙ ap (λ (y : A). take i xs ++ y ∷ []) (sym is)

pub on_err : {T E P : Type 0} (r : Result T E) → P → OnErr r P
on_err (Ok x) h = tt
on_err (Err e) h = h

-- ---- the parts of a topic

pub parts_next : (t : TopicProduceData) (i : ℕ) (d : PartitionProduceData) → i < length t.partitions → d ≡ get_or t.partitions i d
    → map (part_in t.topic) (take (i + 1) t.partitions) ≡ map (part_in t.topic) (take i t.partitions) ++ part_in t.topic d ∷ []
parts_next t i d lt is = ap (map (part_in t.topic)) (take_next t.partitions i d lt is) ∙ map-append (part_in t.topic) (take i t.partitions) (d ∷ [])

-- So many of them were taken: the broker now, and their answers.
pub record TookParts (whim : Option Whim) (node : ℕ) (r : ProduceRequest) (before : Broker) (t : TopicProduceData) (i : ℕ) (entries : List PartitionProduceResponse) (now : Broker) : Type 0 where
  pub leaves : now ≡ after_parts whim node r before (map (part_in t.topic) (take i t.partitions))
  pub answers : entries ≡ part_answers whim node r before (map (part_in t.topic) (take i t.partitions))
  pub fits : AllByRecursion partition_response.Fits entries

pub took_part : (whim : Option Whim) (node : ℕ) (r : ProduceRequest) (before : Broker) (t : TopicProduceData) (i : ℕ) (entries : List PartitionProduceResponse) (now : Broker) (d : PartitionProduceData) (entry : PartitionProduceResponse) (more : List PartitionProduceResponse) (after : Broker) (items : List PartitionProduceData)
    → items ≡ t.partitions → more ≡ entries ++ entry ∷ [] → i < length items → d ≡ get_or items i d
    → entry ≡ part_answer whim node r now (part_in t.topic d) → partition_response.Fits entry → after ≡ (taken whim node r now (part_in t.topic d)).broker
    → TookParts whim node r before t i entries now → TookParts whim node r before t (i + 1) more after
took_part whim node r before t i entries now d entry more after items here pushed lt is answer fits leaves took =
    let parts = map (part_in t.topic) (take i t.partitions) in
    let part = part_in t.topic d in
    let next : map (part_in t.topic) (take (i + 1) t.partitions) ≡ parts ++ part ∷ [] = parts_next t i d (subst (λ (ds : List PartitionProduceData). i < length ds) here lt) (is ∙ ap (λ (ds : List PartitionProduceData). get_or ds i d) here) in
    let step : Broker → Part → Broker = λ b p. (taken whim node r b p).broker in
    let then : after_parts whim node r before (parts ++ part ∷ []) ≡ step (after_parts whim node r before parts) part = fold-append step before parts (part ∷ []) in
    let told : part_answers whim node r before (parts ++ part ∷ []) ≡ part_answers whim node r before parts ++ part_answer whim node r (after_parts whim node r before parts) part ∷ [] = scan-append step (part_answer whim node r) before parts (part ∷ []) in
    record {
      leaves = leaves ∙ ap (λ (b : Broker). step b part) took.leaves ∙ sym then ∙ ap (after_parts whim node r before) (sym next);
      answers = pushed ∙ ap (λ (e : PartitionProduceResponse). entries ++ e ∷ []) (answer ∙ ap (λ (b : Broker). part_answer whim node r b part) took.leaves)
          ∙ ap (λ (es : List PartitionProduceResponse). es ++ part_answer whim node r (after_parts whim node r before parts) part ∷ []) took.answers
          ∙ sym told ∙ ap (part_answers whim node r before) (sym next);
      fits = subst (AllByRecursion partition_response.Fits) (sym pushed) (all_append partition_response.Fits entries (entry ∷ []) took.fits (fits, tt));
    }

-- those that were taken, where the broker stops there
pub took_some : (whim : Option Whim) (node : ℕ) (r : ProduceRequest) (before : Broker) (t : TopicProduceData) (i : ℕ) (entries : List PartitionProduceResponse) (now after : Broker)
    → after ≡ now → TookParts whim node r before t i entries now → TakesSome whim node r before (parts_in t) after
took_some whim node r before t i entries now after same took = record {
  taken = map (part_in t.topic) (take i t.partitions);
  left = map (part_in t.topic) (drop i t.partitions);
  split = ap (map (part_in t.topic)) (sym (take-append-drop i t.partitions)) ∙ map-append (part_in t.topic) (take i t.partitions) (drop i t.partitions);
  leaves = same ∙ took.leaves;
}

-- the answer to a topic has a spelling, once all of them were taken
pub topic_fits : (whim : Option Whim) (node : ℕ) (r : ProduceRequest) (before : Broker) (t : TopicProduceData) (i : ℕ) (entries : List PartitionProduceResponse) (now : Broker) (name : List ℕ)
    → topic_data.Fits t → name ≡ t.topic → length t.partitions ≤ i → TookParts whim node r before t i entries now → topic_response.Fits (record { topic = name; partitions = entries })
unfolding topic_data topic_response FitsArray
topic_fits whim node r before t i entries now name fits same end took =
    let step : Broker → Part → Broker = λ b p. (taken whim node r b p).broker in
    let as_many : length entries ≡ length t.partitions =
    ap length took.answers ∙ length-scan step (part_answer whim node r) before (map (part_in t.topic) (take i t.partitions))
    ∙ length-map (take i t.partitions) (part_in t.topic) ∙ ap length (take_all i t.partitions end) in
    (subst string.Fits (sym same) fits.0, (subst (λ (n : ℕ). int32.Fits (pos n)) (sym as_many) fits.1.0, took.fits))

-- ---- the topics of a request

-- So many of them were taken: the broker now, and their answers.
pub record TookTopics (whim : Option Whim) (node : ℕ) (r : ProduceRequest) (before : Broker) (i : ℕ) (answers : List TopicProduceResponse) (now : Broker) : Type 0 where
  pub leaves : now ≡ after_parts whim node r before (flat_map parts_in (take i r.topics))
  pub are_answers : answers ≡ topic_answers whim node r before (take i r.topics)
  pub fits : AllByRecursion topic_response.Fits answers

-- topic by topic, or part by part
pub after_topics : (whim : Option Whim) (node : ℕ) (r : ProduceRequest) (b : Broker) (topics : List TopicProduceData)
    → fold (λ b t. after_parts whim node r b (parts_in t)) b topics ≡ after_parts whim node r b (flat_map parts_in topics)
after_topics whim node r b [] = refl
after_topics whim node r b (t ∷ topics) =
    after_topics whim node r (after_parts whim node r b (parts_in t)) topics
    ∙ sym (fold-append (λ b p. (taken whim node r b p).broker) b (parts_in t) (flat_map parts_in topics))
    ∙ ap (after_parts whim node r b) (sym (flat_map-cons parts_in t topics))

pub took_topic : (whim : Option Whim) (node : ℕ) (r : ProduceRequest) (before : Broker) (i : ℕ) (answers : List TopicProduceResponse) (now : Broker) (t : TopicProduceData) (answer : TopicProduceResponse) (more : List TopicProduceResponse) (after : Broker) (items : List TopicProduceData)
    → items ≡ r.topics → more ≡ answers ++ answer ∷ [] → i < length items → t ≡ get_or items i t
    → answer ≡ topic_answer whim node r now t → topic_response.Fits answer → after ≡ after_parts whim node r now (parts_in t)
    → TookTopics whim node r before i answers now → TookTopics whim node r before (i + 1) more after
took_topic whim node r before i answers now t answer more after items here pushed lt is as_asked fits leaves took =
    let taken_topics = take i r.topics in
    let step : Broker → TopicProduceData → Broker = λ b t. after_parts whim node r b (parts_in t) in
    let next : take (i + 1) r.topics ≡ taken_topics ++ t ∷ [] = take_next r.topics i t (subst (λ (ts : List TopicProduceData). i < length ts) here lt) (is ∙ ap (λ (ts : List TopicProduceData). get_or ts i t) here) in
    let then : after_parts whim node r before (flat_map parts_in (taken_topics ++ t ∷ [])) ≡ step (after_parts whim node r before (flat_map parts_in taken_topics)) t =
    sym (after_topics whim node r before (taken_topics ++ t ∷ [])) ∙ fold-append step before taken_topics (t ∷ []) ∙ ap (λ (b : Broker). step b t) (after_topics whim node r before taken_topics) in
    let told : topic_answers whim node r before (taken_topics ++ t ∷ []) ≡ topic_answers whim node r before taken_topics ++ topic_answer whim node r (fold step before taken_topics) t ∷ [] = scan-append step (topic_answer whim node r) before taken_topics (t ∷ []) in
    record {
      leaves = leaves ∙ ap (λ (b : Broker). step b t) took.leaves ∙ sym then ∙ ap (λ (ts : List TopicProduceData). after_parts whim node r before (flat_map parts_in ts)) (sym next);
      are_answers = pushed ∙ ap (λ (e : TopicProduceResponse). answers ++ e ∷ []) (as_asked ∙ ap (λ (b : Broker). topic_answer whim node r b t) (took.leaves ∙ sym (after_topics whim node r before taken_topics)))
          ∙ ap (λ (es : List TopicProduceResponse). es ++ topic_answer whim node r (fold step before taken_topics) t ∷ []) took.are_answers
          ∙ sym told ∙ ap (topic_answers whim node r before) (sym next);
      fits = subst (AllByRecursion topic_response.Fits) (sym pushed) (all_append topic_response.Fits answers (answer ∷ []) took.fits (fits, tt));
    }

-- those that were taken, where the broker stops behind a topic
pub took_some_topics : (whim : Option Whim) (node : ℕ) (r : ProduceRequest) (before : Broker) (i : ℕ) (answers : List TopicProduceResponse) (now after : Broker)
    → after ≡ now → TookTopics whim node r before i answers now → TakesSome whim node r before (parts_of r) after
took_some_topics whim node r before i answers now after same took = record {
  taken = flat_map parts_in (take i r.topics);
  left = flat_map parts_in (drop i r.topics);
  split = ap (flat_map parts_in) (sym (take-append-drop i r.topics)) ∙ flat_map-append parts_in (take i r.topics) (drop i r.topics);
  leaves = same ∙ took.leaves;
}

-- the same where it stops within one
pub took_within : (whim : Option Whim) (node : ℕ) (r : ProduceRequest) (before : Broker) (i : ℕ) (answers : List TopicProduceResponse) (now : Broker) (t : TopicProduceData) (after : Broker) (items : List TopicProduceData)
    → items ≡ r.topics → i < length items → t ≡ get_or items i t
    → TakesSome whim node r now (parts_in t) after → TookTopics whim node r before i answers now → TakesSome whim node r before (parts_of r) after
took_within whim node r before i answers now t after items here lt is within took =
    let front = flat_map parts_in (take i r.topics) in
    let back = flat_map parts_in (drop (i + 1) r.topics) in
    let rest : drop i r.topics ≡ t ∷ drop (i + 1) r.topics = drop_here r.topics i t (subst (λ (ts : List TopicProduceData). i < length ts) here lt) (is ∙ ap (λ (ts : List TopicProduceData). get_or ts i t) here) in
    let whole : parts_of r ≡ front ++ ((within.taken ++ within.left) ++ back) =
    ap (flat_map parts_in) (sym (take-append-drop i r.topics)) ∙ flat_map-append parts_in (take i r.topics) (drop i r.topics)
    ∙ ap (λ (ts : List TopicProduceData). front ++ flat_map parts_in ts) rest
    ∙ ap (λ (ps : List Part). front ++ ps) (flat_map-cons parts_in t (drop (i + 1) r.topics))
    ∙ ap (λ (ps : List Part). front ++ (ps ++ back)) within.split in
    record {
      taken = front ++ within.taken;
      left = within.left ++ back;
      split = whole ∙ ap (λ (ps : List Part). front ++ ps) (append_assoc within.taken within.left back) ∙ sym (append_assoc front within.taken (within.left ++ back));
      leaves = within.leaves ∙ ap (λ (b : Broker). after_parts whim node r b within.taken) took.leaves ∙ sym (fold-append (λ b p. (taken whim node r b p).broker) before front within.taken);
    }

-- each topic of a request that fits does
pub topic_data_fits : (r : ProduceRequest) (i : ℕ) (t : TopicProduceData) (items : List TopicProduceData)
    → produce_request.Fits r → items ≡ r.topics → i < length items → t ≡ get_or items i t → topic_data.Fits t
unfolding produce_request FitsArray
topic_data_fits r i t items fits here lt is = subst topic_data.Fits (sym (is ∙ ap (λ (ts : List TopicProduceData). get_or ts i t) here))
    (all_at topic_data.Fits r.topics i t (subst (λ (ts : List TopicProduceData). i < length ts) here lt) fits.1.1.1.1)

-- the answer to a request has a spelling, once all of its topics were taken
pub produce_fits : (whim : Option Whim) (node : ℕ) (r : ProduceRequest) (before : Broker) (i : ℕ) (answers : List TopicProduceResponse) (now : Broker)
    → produce_request.Fits r → length r.topics ≤ i → TookTopics whim node r before i answers now → produce_response.Fits (record { topics = answers; throttle_time_ms = pos 0 })
unfolding produce_request produce_response FitsArray
produce_fits whim node r before i answers now fits end took =
    let step : Broker → TopicProduceData → Broker = λ b t. after_parts whim node r b (parts_in t) in
    let as_many : length answers ≡ length r.topics =
    ap length took.are_answers ∙ length-scan step (topic_answer whim node r) before (take i r.topics) ∙ ap length (take_all i r.topics end) in
    ((subst (λ (n : ℕ). int32.Fits (pos n)) (sym as_many) fits.1.1.1.0, took.fits), search rules)
