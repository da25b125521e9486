-- The answers have spellings.
use Rattle.std.proofs.Common.{◌≡◌, ◌∙◌, ℕ, zero, suc, ◌+◌, ◌<◌, ◌≤◌, ◌^◌, List, [], ◌∷◌, length, map, get_or, refl, sym, subst, pos, Bool, true, false, Option, Some, None, arith, rules}
use Rattle.std.specs.Prelude.{FitsSigned, bytes_eq, nat_le}
use Rattle.std.specs.Int.{w32}
use Rattle.std.specs.List.{AllByRecursion, range_with_len}
use Rattle.std.proofs.lemmas.List.{length-map}
use Rattle.std.proofs.lemmas.List.FromFn.{length-range_with_len}
use Rattle.kp_frames.specs.declared.metadata.MetadataRequest.{MetadataRequest}
use Rattle.kp_frames.specs.declared.request.Request.{Request}
use Rattle.kp_frames.specs.declared.response.Response.{Response}
use Rattle.kp_frames.specs.Metadata.{broker, metadata_request, metadata_response, partition_metadata, topic_metadata}
use Rattle.kp_frames.specs.ProducerId.{init_producer_id_response}
use Rattle.kp_frames.specs.Request as request
use Rattle.kp_frames.specs.Request.{FitsRequest, known}
use Rattle.kp_frames.specs.Response as response
use Rattle.kp_frames.specs.Response.{FitsResponse, answer, api_of}
use Rattle.kp_wire.specs.Fields.{FitsArray, FitsNullableArray, int32}
use Rattle.kp_wire.specs.Strings.{string}
use Rattle.kp_broker.specs.Answers as answers
use Rattle.kp_broker.specs.Answers.{id_answer, metadata_answer, node_metadata, nodes_metadata, own_topic, unknown_topic, topics_metadata}
use Rattle.kp_broker.proofs.LeaderLemmas.{led_by}
use Rattle.kp_broker.specs.Broker.{Broker, IsSound, LAST_PRODUCER_ID, leader_of}

-- ---- requests and responses

pub request_body_fits : (r : Request) → FitsRequest r → request.FitsBody r.body
unfolding FitsRequest known request.body
request_body_fits r fits = fits.1.1.1

pub response_fits : (r : Response) → int32.Fits r.correlation → response.FitsBody r.body → FitsResponse r
unfolding FitsResponse answer response.body
response_fits r correlation fits = (correlation, (refl, fits))

-- ---- ids

given_fits : (b : Broker) (left : Bool) → nat_le b.next_id LAST_PRODUCER_ID ≡ left → init_producer_id_response.Fits (id_answer b None)
unfolding init_producer_id_response
given_fits b true left =
    let least : b.next_id < 2 ^ 63 = grind arith in
    rw left (search rules, (search rules, (record { sfits = least }, search rules)))
given_fits b false left = rw left (search rules)

pub id_fits : (b : Broker) (transactional_id : Option (List ℕ)) → init_producer_id_response.Fits (id_answer b transactional_id)
unfolding init_producer_id_response
id_fits b None = given_fits b (nat_le b.next_id LAST_PRODUCER_ID) refl
id_fits b (Some name) = search rules

-- ---- Metadata

-- what is true of each broker
abbrev pub Sound : Broker → Type 0
Sound b = IsSound b.topic b.ports b.leaders b.logs

small : (n : ℕ) → n ≤ 1024 → int32.Fits (pos n)
small n few = record { sfits = omega arith }

replica_fits : (leader : ℕ) → leader ≤ 1024 → FitsArray int32.Fits (pos leader ∷ [])
unfolding FitsArray
replica_fits leader few = (small 1 (omega arith), (small leader few, tt))

few_leaders : (b : Broker) (p : ℕ) → Sound b → leader_of b p ≤ 1024
few_leaders b p sound = omega (arith, sound.few_nodes, led_by (length b.ports) b.leaders p sound.some_nodes sound.by_nodes)

partition_fits : (b : Broker) (p : ℕ) → Sound b → p ≤ 1024 → partition_metadata.Fits (answers.partition_metadata b p)
unfolding partition_metadata
partition_fits b p sound few =
    let leader = few_leaders b p sound in
    (search rules, (small p few, (small (leader_of b p) leader, (replica_fits (leader_of b p) leader, replica_fits (leader_of b p) leader))))

partitions_fit : (b : Broker) (a n : ℕ) → Sound b → a + n ≤ 1024 → AllByRecursion partition_metadata.Fits (map (answers.partition_metadata b) (range_with_len a n))
partitions_fit b a zero sound few = tt
partitions_fit b a (suc n) sound few = (partition_fits b a sound (omega arith), partitions_fit b (a + 1) n sound (omega arith))

own_topic_fits : (b : Broker) → Sound b → topic_metadata.Fits (own_topic b)
unfolding topic_metadata FitsArray
own_topic_fits b sound =
    let n = length b.logs in
    let count : length (map (answers.partition_metadata b) (range_with_len 0 n)) ≡ n = length-map (range_with_len 0 n) (answers.partition_metadata b) ∙ length-range_with_len 0 n in
    (search rules, ((record { sfits = omega (arith, sound.name) }, (refl, sound.text)), (tt, (subst (λ (k : ℕ). int32.Fits (pos k)) (sym count) (small n sound.few_partitions), partitions_fit b 0 n sound (omega (arith, sound.few_partitions))))))

unknown_topic_fits : (name : List ℕ) → string.Fits name → topic_metadata.Fits (unknown_topic name)
unfolding topic_metadata FitsArray
unknown_topic_fits name fits = (search rules, (fits, (tt, (small 0 (omega arith), tt))))

topic_fits : (b : Broker) (name : List ℕ) (own : Bool) → Sound b → string.Fits name → bytes_eq name b.topic ≡ own → topic_metadata.Fits (answers.topic_metadata b name)
topic_fits b name true sound fits own = rw own (own_topic_fits b sound)
topic_fits b name false sound fits own = rw own (unknown_topic_fits name fits)

topics_fit : (b : Broker) (names : List (List ℕ)) → Sound b → AllByRecursion string.Fits names → AllByRecursion topic_metadata.Fits (map (answers.topic_metadata b) names)
topics_fit b [] sound fits = tt
topics_fit b (name ∷ names) sound fits = (topic_fits b name (bytes_eq name b.topic) sound fits.0 refl, topics_fit b names sound fits.1)

asked_fit : (b : Broker) (names : Option (List (List ℕ))) → Sound b → FitsNullableArray string.Fits names → FitsArray topic_metadata.Fits (topics_metadata b names)
unfolding FitsArray FitsNullableArray
asked_fit b None sound fits = (small 1 (omega arith), (own_topic_fits b sound, tt))
asked_fit b (Some names) sound fits =
    (subst (λ (k : ℕ). int32.Fits (pos k)) (sym (length-map names (answers.topic_metadata b))) fits.0, topics_fit b names sound fits.1)

pub node_fits : (ports : List ℕ) (n : ℕ) → n ≤ 1024 → FitsSigned w32 (pos (get_or ports n 0)) → broker.Fits (node_metadata ports n)
unfolding broker
node_fits ports n few port = (small n few, ((record { sfits = omega arith }, (refl, search rules)), (port, search rules)))

pub metadata_fits : (b : Broker) (r : MetadataRequest) → Sound b → AllByRecursion broker.Fits (nodes_metadata b.ports) → metadata_request.Fits r → metadata_response.Fits (metadata_answer b r)
unfolding metadata_request metadata_response FitsArray
metadata_fits b r sound nodes fits =
    let n = length b.ports in
    let count : length (nodes_metadata b.ports) ≡ n = length-map (range_with_len 0 n) (node_metadata b.ports) ∙ length-range_with_len 0 n in
    ((subst (λ (k : ℕ). int32.Fits (pos k)) (sym count) (small n (omega (arith, sound.few_nodes))), nodes), (small 0 (omega arith), asked_fit b r.topics sound fits))
