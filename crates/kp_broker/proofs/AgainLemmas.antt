-- Parts that come again.
use Rattle.std.proofs.Common.{◌≡◌, ◌∙◌, ℕ, zero, suc, arith, ℤ, pos, negsuc, nat_abs, List, [], ◌∷◌, ◌++◌, length, get_or, refl, ap, sym, subst, set, Bool, true, false, Option, Some, None, Result, Ok, Err}
use Rattle.std.specs.Prelude.{slice_get, bytes_eq, flat_map, nat_eq}
use Rattle.std.specs.List.{AllByRecursion}
use Rattle.std.proofs.lemmas.List.{set-set}
use Rattle.std.proofs.lemmas.Slice.Eq.{bytes_eq-Decides}
use Rattle.std.proofs.lemmas.List.Sums.{fold-append}
use Rattle.kp_batch.specs.declared.batch.Batch.{Batch}
use Rattle.kp_batch.specs.declared.fault.BatchFault.{BatchFault}
use Rattle.kp_batch.specs.Reading.{batch_at}
use Rattle.kp_frames.specs.declared.produce.PartitionProduceResponse.{PartitionProduceResponse}
use Rattle.kp_frames.specs.declared.produce.ProduceRequest.{ProduceRequest}
use Rattle.kp_frames.specs.declared.produce.TopicProduceData.{TopicProduceData}
use Rattle.kp_frames.specs.declared.produce.TopicProduceResponse.{TopicProduceResponse}
use Rattle.kp_log.specs.BrokerStep.{Answered, answered, error_of}
use Rattle.kp_log.specs.Log.{Log}
use Rattle.kp_log.specs.SequenceRule.{Judgement, offered, unchanged}
use Rattle.kp_log.proofs.RuleLemmas.{answered_alike}
use Rattle.kp_broker.specs.Again.{IsSamePartition, AreApart, IsLedAlike}
use Rattle.kp_broker.specs.Answering.{TakesSome}
use Rattle.kp_broker.specs.Answers.{Part, Taken, taken, taken_by, log_at, log_for, entry_of, produce_answer, is_idempotent, INVALID_REQUEST, UNKNOWN_TOPIC_OR_PARTITION, NOT_LEADER_OR_FOLLOWER, after_parts, part_answer, part_answers, parts_in, parts_of, topic_answer, topic_answers}
use Rattle.kp_broker.specs.Broker.{Broker, leads, with_leaders}
use Rattle.kp_broker.proofs.TakingLemmas.{scan-append, length-scan}

-- ---- the element at a place

get_set_same : {A : Type 0} (xs : List A) (k : ℕ) (x y : A) → slice_get xs k ≡ Some x → slice_get (set xs k y) k ≡ Some y
get_set_same [] k x y here = cc
get_set_same (z ∷ xs) zero x y here = refl
get_set_same (z ∷ xs) (suc k) x y here = get_set_same xs k x y here

get_set_other : {A : Type 0} (xs : List A) (j k : ℕ) (y : A) → (j ≡ k → ⊥) → slice_get (set xs k y) j ≡ slice_get xs j
get_set_other [] j k y apart = refl
get_set_other (z ∷ xs) zero zero y apart = absurd (apart refl)
get_set_other (z ∷ xs) zero (suc k) y apart = refl
get_set_other (z ∷ xs) (suc j) zero y apart = refl
get_set_other (z ∷ xs) (suc j) (suc k) y apart = get_set_other xs j k y (λ e. apart (ap suc e))

set_set_other : {A : Type 0} (xs : List A) (j k : ℕ) (x y : A) → (j ≡ k → ⊥) → set (set xs j x) k y ≡ set (set xs k y) j x
set_set_other [] j k x y apart = refl
set_set_other (z ∷ xs) zero zero x y apart = absurd (apart refl)
set_set_other (z ∷ xs) zero (suc k) x y apart = refl
set_set_other (z ∷ xs) (suc j) zero x y apart = refl
set_set_other (z ∷ xs) (suc j) (suc k) x y apart = ap (λ (zs : List _). z ∷ zs) (set_set_other xs j k x y (λ e. apart (ap suc e)))

-- ---- one batch

again : (log : Log) (what : Result Batch BatchFault) → offered (offered log what).log what ≡ unchanged (offered log what).log (offered log what).answer
again log (Ok b) = answered_alike log b
again log (Err fault) = refl

-- ---- one part

-- what a part is for: no log, and then its code, or the log at a place, and whether the node leads it
data Aim : Type 0 where
  Nowhere : ℤ → Aim
  At : Bool → ℕ → Aim

abbrev by_partition : ℕ → List ℕ → ℤ → Aim
by_partition node leaders (pos k) = At (nat_eq (get_or leaders k 0) node) k
by_partition node leaders (negsuc n) = Nowhere UNKNOWN_TOPIC_OR_PARTITION

abbrev by_topic : Bool → ℕ → List ℕ → ℤ → Aim
by_topic true node leaders partition = by_partition node leaders partition
by_topic false node leaders partition = Nowhere UNKNOWN_TOPIC_OR_PARTITION

abbrev by_request : Bool → Bool → ℕ → List ℕ → ℤ → Aim
by_request true own node leaders partition = by_topic own node leaders partition
by_request false own node leaders partition = Nowhere INVALID_REQUEST

abbrev aim_of : ℕ → ProduceRequest → Broker → Part → Aim
aim_of node r b p = by_request (is_idempotent r) (bytes_eq p.topic b.topic) node b.leaders p.partition

abbrev answer_at : Bool → Option Log → List ℕ → Answered
answer_at led None records = error_of UNKNOWN_TOPIC_OR_PARTITION
answer_at true (Some log) records = answered (offered log (batch_at records)).answer
answer_at false (Some log) records = error_of NOT_LEADER_OR_FOLLOWER

abbrev logs_at : Bool → Option Log → ℕ → List ℕ → List Log → List Log
logs_at led None k records logs = logs
logs_at true (Some log) k records logs = set logs k (offered log (batch_at records)).log
logs_at false (Some log) k records logs = logs

abbrev answer_by : Aim → List ℕ → List Log → Answered
answer_by (Nowhere code) records logs = error_of code
answer_by (At led k) records logs = answer_at led (slice_get logs k) records

abbrev logs_by : Aim → List ℕ → List Log → List Log
logs_by (Nowhere code) records logs = logs
logs_by (At led k) records logs = logs_at led (slice_get logs k) k records logs

abbrev taken_at : Aim → Broker → Part → Taken
taken_at aim b p = record { answer = answer_by aim p.records b.logs; broker = record b { logs = logs_by aim p.records b.logs } }

log_taken : (node : ℕ) (b : Broker) (p : Part) (k : ℕ) (led : Bool) (log : Option Log) → p.partition ≡ pos k → slice_get b.logs k ≡ log → leads node b k ≡ led
    → taken_by (log_at p.partition b.logs) None node b p ≡ taken_at (At led k) b p
log_taken node b p k led None there here lead = rw (there, here)
log_taken node b p k true (Some log) there here lead = rw (there, here, lead)
log_taken node b p k false (Some log) there here lead = rw (there, here, lead)

partition_taken : (node : ℕ) (b : Broker) (p : Part) (partition : ℤ) → p.partition ≡ partition → taken_by (log_at p.partition b.logs) None node b p ≡ taken_at (by_partition node b.leaders partition) b p
partition_taken node b p (pos k) there = log_taken node b p k (leads node b k) (slice_get b.logs k) there refl refl
partition_taken node b p (negsuc n) there = rw there

topic_taken : (node : ℕ) (b : Broker) (p : Part) (own : Bool) → bytes_eq p.topic b.topic ≡ own → taken_by (log_for b p.topic p.partition) None node b p ≡ taken_at (by_topic own node b.leaders p.partition) b p
topic_taken node b p true is = rw is (partition_taken node b p p.partition refl)
topic_taken node b p false is = rw is

request_taken : (node : ℕ) (r : ProduceRequest) (b : Broker) (p : Part) (offered : Bool) → is_idempotent r ≡ offered → taken None node r b p ≡ taken_at (by_request offered (bytes_eq p.topic b.topic) node b.leaders p.partition) b p
request_taken node r b p true is = rw is (topic_taken node b p (bytes_eq p.topic b.topic) refl)
request_taken node r b p false is = rw is

-- what is done with a part, by what it is for
taken_is : (node : ℕ) (r : ProduceRequest) (b : Broker) (p : Part) → taken None node r b p ≡ taken_at (aim_of node r b p) b p
taken_is node r b p = request_taken node r b p (is_idempotent r) refl

-- ---- a part that comes again

logs_again_at : (led : Bool) (k : ℕ) (x : List ℕ) (logs : List Log) (log : Option Log) → slice_get logs k ≡ log
    → logs_at led (slice_get (logs_at led log k x logs) k) k x (logs_at led log k x logs) ≡ logs_at led log k x logs
logs_again_at led k x logs None here = rw here
logs_again_at true k x logs (Some log) here =
    let step = offered log (batch_at x) in
    let now : slice_get (set logs k step.log) k ≡ Some step.log = get_set_same logs k log step.log here in
    rw now (set-set logs k step.log (offered step.log (batch_at x)).log ∙ ap (λ (j : Judgement). set logs k j.log) (again log (batch_at x)))
logs_again_at false k x logs (Some log) here = rw here

answer_again_at : (led : Bool) (k : ℕ) (x : List ℕ) (logs : List Log) (log : Option Log) → slice_get logs k ≡ log
    → answer_at led (slice_get (logs_at led log k x logs) k) x ≡ answer_at led log x
answer_again_at led k x logs None here = rw here
answer_again_at true k x logs (Some log) here =
    let step = offered log (batch_at x) in
    let now : slice_get (set logs k step.log) k ≡ Some step.log = get_set_same logs k log step.log here in
    rw now (ap (λ (j : Judgement). answered j.answer) (again log (batch_at x)))
answer_again_at false k x logs (Some log) here = rw here

logs_again : (aim : Aim) (x : List ℕ) (logs : List Log) → logs_by aim x (logs_by aim x logs) ≡ logs_by aim x logs
logs_again (Nowhere code) x logs = refl
logs_again (At led k) x logs = logs_again_at led k x logs (slice_get logs k) refl

answer_again : (aim : Aim) (x : List ℕ) (logs : List Log) → answer_by aim x (logs_by aim x logs) ≡ answer_by aim x logs
answer_again (Nowhere code) x logs = refl
answer_again (At led k) x logs = answer_again_at led k x logs (slice_get logs k) refl

-- ---- two parts that are not for one partition

abbrev AimsApart : Aim → Aim → Type 0
AimsApart (Nowhere code) b = Unit {0}
AimsApart (At led j) (Nowhere code) = Unit {0}
AimsApart (At led j) (At other k) = j ≡ k → ⊥

get_other : (led : Bool) (j k : ℕ) (y : List ℕ) (logs : List Log) (log : Option Log) → (j ≡ k → ⊥) → slice_get (logs_at led log k y logs) j ≡ slice_get logs j
get_other led j k y logs None apart = refl
get_other true j k y logs (Some log) apart = get_set_other logs j k (offered log (batch_at y)).log apart
get_other false j k y logs (Some log) apart = refl

logs_other_at : (led other : Bool) (j k : ℕ) (x y : List ℕ) (logs : List Log) (at_j at_k : Option Log) → (j ≡ k → ⊥)
    → logs_at led at_j j x (logs_at other at_k k y logs) ≡ logs_at other at_k k y (logs_at led at_j j x logs)
logs_other_at led other j k x y logs None at_k apart = refl
logs_other_at true other j k x y logs (Some log) None apart = refl
logs_other_at false other j k x y logs (Some log) None apart = refl
logs_other_at true true j k x y logs (Some log) (Some beside) apart = sym (set_set_other logs j k (offered log (batch_at x)).log (offered beside (batch_at y)).log apart)
logs_other_at true false j k x y logs (Some log) (Some beside) apart = refl
logs_other_at false true j k x y logs (Some log) (Some beside) apart = refl
logs_other_at false false j k x y logs (Some log) (Some beside) apart = refl

logs_other : (a b : Aim) (x y : List ℕ) (logs : List Log) → AimsApart a b → logs_by a x (logs_by b y logs) ≡ logs_by b y (logs_by a x logs)
logs_other (Nowhere code) b x y logs apart = refl
logs_other (At led j) (Nowhere code) x y logs apart = refl
logs_other (At led j) (At other k) x y logs apart =
    let at_j = slice_get logs j in
    let at_k = slice_get logs k in
    ap (λ (log : Option Log). logs_at led log j x (logs_at other at_k k y logs)) (get_other other j k y logs at_k apart)
    ∙ logs_other_at led other j k x y logs at_j at_k apart
    ∙ ap (λ (log : Option Log). logs_at other log k y (logs_at led at_j j x logs)) (sym (get_other led k j x logs at_j (λ e. apart (sym e))))

answer_other : (a b : Aim) (x y : List ℕ) (logs : List Log) → AimsApart a b → answer_by a x (logs_by b y logs) ≡ answer_by a x logs
answer_other (Nowhere code) b x y logs apart = refl
answer_other (At led j) (Nowhere code) x y logs apart = refl
answer_other (At led j) (At other k) x y logs apart = ap (λ (log : Option Log). answer_at led log x) (get_other other j k y logs (slice_get logs k) apart)

same_text : (xs ys : List ℕ) → bytes_eq xs ys ≡ true → xs ≡ ys
same_text xs ys same = (bytes_eq-Decides xs ys).0 same

aims_by : (node : ℕ) (b : Broker) (p q : Part) (offered own other : Bool) (m n : ℤ) → bytes_eq p.topic b.topic ≡ own → bytes_eq q.topic b.topic ≡ other
    → p.partition ≡ m → q.partition ≡ n → ¬ (IsSamePartition p q) → AimsApart (by_request offered own node b.leaders m) (by_request offered other node b.leaders n)
aims_by node b p q false own other m n is_own is_other here there apart = tt
aims_by node b p q true false other m n is_own is_other here there apart = tt
aims_by node b p q true true false (negsuc m) n is_own is_other here there apart = tt
aims_by node b p q true true false (pos m) n is_own is_other here there apart = tt
aims_by node b p q true true true (negsuc m) n is_own is_other here there apart = tt
aims_by node b p q true true true (pos m) (negsuc n) is_own is_other here there apart = tt
aims_by node b p q true true true (pos m) (pos n) is_own is_other here there apart =
    λ e. apart (same_text p.topic b.topic is_own ∙ sym (same_text q.topic b.topic is_other), here ∙ ap pos e ∙ sym there)

aims_apart : (node : ℕ) (r : ProduceRequest) (b : Broker) (p q : Part) → ¬ (IsSamePartition p q) → AimsApart (aim_of node r b p) (aim_of node r b q)
aims_apart node r b p q apart = aims_by node b p q (is_idempotent r) (bytes_eq p.topic b.topic) (bytes_eq q.topic b.topic) p.partition q.partition refl refl refl refl apart

-- ---- parts of a broker's topics

abbrev step : ℕ → ProduceRequest → Broker → Part → Broker
step node r b p = (taken None node r b p).broker

abbrev told : ℕ → ProduceRequest → Broker → Part → Answered
told node r b p = (taken None node r b p).answer

abbrev with_logs : Broker → List Log → Broker
with_logs b logs = record b { logs = logs }

step_is : (node : ℕ) (r : ProduceRequest) (b : Broker) (p : Part) → step node r b p ≡ with_logs b (logs_by (aim_of node r b p) p.records b.logs)
step_is node r b p = ap (λ (t : Taken). t.broker) (taken_is node r b p)

told_is : (node : ℕ) (r : ProduceRequest) (b : Broker) (p : Part) → told node r b p ≡ answer_by (aim_of node r b p) p.records b.logs
told_is node r b p = ap (λ (t : Taken). t.answer) (taken_is node r b p)

-- The part was taken: it is answered so, and changes nothing.
record IsSettled (node : ℕ) (r : ProduceRequest) (b : Broker) (p : Part) (a : Answered) : Type 0 where
  same : step node r b p ≡ b
  answer : told node r b p ≡ a

settled : (node : ℕ) (r : ProduceRequest) (b : Broker) (p : Part) → IsSettled node r (step node r b p) p (told node r b p)
settled node r b p =
    let aim = aim_of node r b p in
    let logs = logs_by aim p.records b.logs in
    record {
      same = ap (λ (c : Broker). step node r c p) (step_is node r b p) ∙ step_is node r (with_logs b logs) p ∙ ap (with_logs b) (logs_again aim p.records b.logs) ∙ sym (step_is node r b p);
      answer = ap (λ (c : Broker). told node r c p) (step_is node r b p) ∙ told_is node r (with_logs b logs) p ∙ answer_again aim p.records b.logs ∙ sym (told_is node r b p);
    }

settled_beside : (node : ℕ) (r : ProduceRequest) (b : Broker) (p q : Part) (a : Answered) → ¬ (IsSamePartition p q) → IsSettled node r b p a → IsSettled node r (step node r b q) p a
settled_beside node r b p q a apart before =
    let aim = aim_of node r b p in
    let other = aim_of node r b q in
    let logs = logs_by other q.records b.logs in
    let still : logs_by aim p.records b.logs ≡ b.logs = ap (λ (c : Broker). c.logs) (sym (step_is node r b p) ∙ before.same) in
    let aims = aims_apart node r b p q apart in
    record {
      same = ap (λ (c : Broker). step node r c p) (step_is node r b q) ∙ step_is node r (with_logs b logs) p
          ∙ ap (with_logs b) (logs_other aim other p.records q.records b.logs aims ∙ ap (logs_by other q.records) still) ∙ sym (step_is node r b q);
      answer = ap (λ (c : Broker). told node r c p) (step_is node r b q) ∙ told_is node r (with_logs b logs) p
          ∙ answer_other aim other p.records q.records b.logs aims ∙ sym (told_is node r b p) ∙ before.answer;
    }

settled_behind : (node : ℕ) (r : ProduceRequest) (b : Broker) (p : Part) (a : Answered) (qs : List Part) → AllByRecursion (λ q. ¬ (IsSamePartition p q)) qs
    → IsSettled node r b p a → IsSettled node r (after_parts None node r b qs) p a
settled_behind node r b p a [] apart before = before
settled_behind node r b p a (q ∷ qs) apart before = settled_behind node r (step node r b q) p a qs apart.1 (settled_beside node r b p q a apart.0 before)

-- ---- parts that come again

record AreSettled (node : ℕ) (r : ProduceRequest) (b : Broker) (ps : List Part) : Type 0 where
  same : after_parts None node r (after_parts None node r b ps) ps ≡ after_parts None node r b ps
  answers : part_answers None node r (after_parts None node r b ps) ps ≡ part_answers None node r b ps

all_settled : (node : ℕ) (r : ProduceRequest) (b : Broker) (ps : List Part) → AreApart ps → AreSettled node r b ps
all_settled node r b [] apart = record { same = refl; answers = refl }
all_settled node r b (p ∷ ps) apart =
    let now = after_parts None node r (step node r b p) ps in
    let front : IsSettled node r now p (told node r b p) = settled_behind node r (step node r b p) p (told node r b p) ps apart.0 (settled node r b p) in
    let rest = all_settled node r (step node r b p) ps apart.1 in
    record {
      same = ap (λ (c : Broker). after_parts None node r c ps) front.same ∙ rest.same;
      answers = ap (λ (a : Answered). entry_of p.partition a ∷ part_answers None node r (step node r now p) ps) front.answer
          ∙ ap (λ (c : Broker). part_answer None node r b p ∷ part_answers None node r c ps) front.same
          ∙ ap (λ (es : List PartitionProduceResponse). part_answer None node r b p ∷ es) rest.answers;
    }

all_front : {A : Type 0} (P : A → Type 0) (xs ys : List A) → AllByRecursion P (xs ++ ys) → AllByRecursion P xs
all_front P [] ys all = tt
all_front P (x ∷ xs) ys all = (all.0, all_front P xs ys all.1)

apart_front : (ps qs : List Part) → AreApart (ps ++ qs) → AreApart ps
apart_front [] qs apart = tt
apart_front (p ∷ ps) qs apart = (all_front (λ q. ¬ (IsSamePartition p q)) ps qs apart.0, apart_front ps qs apart.1)

pub broker_again : (node : ℕ) (r : ProduceRequest) (before after : Broker) → AreApart (parts_of r) → TakesSome None node r before (parts_of r) after
    → after_parts None node r after (parts_of r) ≡ after_parts None node r before (parts_of r)
broker_again node r before after apart some =
    let now = after_parts None node r before some.taken in
    let front = all_settled node r before some.taken (apart_front some.taken some.left (subst AreApart some.split apart)) in
    ap (λ (b : Broker). after_parts None node r b (parts_of r)) some.leaves
    ∙ ap (after_parts None node r now) some.split
    ∙ fold-append (step node r) now some.taken some.left
    ∙ ap (λ (b : Broker). after_parts None node r b some.left) front.same
    ∙ sym (fold-append (step node r) before some.taken some.left)
    ∙ ap (after_parts None node r before) (sym some.split)

parts_again : (node : ℕ) (r : ProduceRequest) (before after : Broker) → AreApart (parts_of r) → TakesSome None node r before (parts_of r) after
    → part_answers None node r after (parts_of r) ≡ part_answers None node r before (parts_of r)
parts_again node r before after apart some =
    let now = after_parts None node r before some.taken in
    let front = all_settled node r before some.taken (apart_front some.taken some.left (subst AreApart some.split apart)) in
    ap (λ (b : Broker). part_answers None node r b (parts_of r)) some.leaves
    ∙ ap (part_answers None node r now) some.split
    ∙ scan-append (step node r) (part_answer None node r) now some.taken some.left
    ∙ ap (λ (es : List PartitionProduceResponse). es ++ part_answers None node r (after_parts None node r now some.taken) some.left) front.answers
    ∙ ap (λ (b : Broker). part_answers None node r before some.taken ++ part_answers None node r b some.left) front.same
    ∙ sym (scan-append (step node r) (part_answer None node r) before some.taken some.left)
    ∙ ap (part_answers None node r before) (sym some.split)

-- ---- topic by topic

append_same : {A : Type 0} (xs ys us vs : List A) → length xs ≡ length ys → xs ++ us ≡ ys ++ vs → (xs ≡ ys) × (us ≡ vs)
append_same [] [] us vs long e = (refl, e)
append_same [] (y ∷ ys) us vs long e = absurd (omega (arith, long))
append_same (x ∷ xs) [] us vs long e = absurd (omega (arith, long))
append_same (x ∷ xs) (y ∷ ys) us vs long e =
    let rest : xs ++ us ≡ ys ++ vs = cc in
    let front = append_same xs ys us vs (omega (arith, long)) rest in
    let same : xs ≡ ys = front.0 in
    (cc, front.1)

topics_again : (node other : ℕ) (r : ProduceRequest) (b c : Broker) (topics : List TopicProduceData)
    → part_answers None node r b (flat_map parts_in topics) ≡ part_answers None other r c (flat_map parts_in topics)
    → topic_answers None node r b topics ≡ topic_answers None other r c topics
topics_again node other r b c [] alike = refl
topics_again node other r b c (t ∷ topics) alike =
    let ps = parts_in t in
    let qs = flat_map parts_in topics in
    let long : length (part_answers None node r b ps) ≡ length (part_answers None other r c ps) =
    length-scan (step node r) (part_answer None node r) b ps ∙ sym (length-scan (step other r) (part_answer None other r) c ps) in
    let both = append_same (part_answers None node r b ps) (part_answers None other r c ps) (part_answers None node r (after_parts None node r b ps) qs) (part_answers None other r (after_parts None other r c ps) qs) long
    (sym (scan-append (step node r) (part_answer None node r) b ps qs) ∙ alike ∙ scan-append (step other r) (part_answer None other r) c ps qs) in
    ap (λ (es : List PartitionProduceResponse). record { topic = t.topic; partitions = es } ∷ topic_answers None node r (after_parts None node r b ps) topics) both.0
    ∙ ap (λ (ts : List TopicProduceResponse). topic_answer None other r c t ∷ ts) (topics_again node other r (after_parts None node r b ps) (after_parts None other r c ps) topics both.1)

answers_alike : (node other : ℕ) (r : ProduceRequest) (b c : Broker) → part_answers None node r b (parts_of r) ≡ part_answers None other r c (parts_of r)
    → produce_answer None node r b ≡ produce_answer None other r c
answers_alike node other r b c alike =
    ap (λ (ts : List TopicProduceResponse). record { topics = ts; throttle_time_ms = pos 0 }) (topics_again node other r b c r.topics alike)

pub answer_alike : (node : ℕ) (r : ProduceRequest) (before after : Broker) → AreApart (parts_of r) → TakesSome None node r before (parts_of r) after
    → produce_answer None node r after ≡ produce_answer None node r before
answer_alike node r before after apart some = answers_alike node node r after before (parts_again node r before after apart some)

-- ---- another node

aims_alike : (offered own : Bool) (node other : ℕ) (xs ys : List ℕ) (partition : ℤ)
    → nat_eq (get_or ys (nat_abs partition) 0) other ≡ nat_eq (get_or xs (nat_abs partition) 0) node
    → by_request offered own other ys partition ≡ by_request offered own node xs partition
aims_alike false own node other xs ys partition alike = refl
aims_alike true false node other xs ys partition alike = refl
aims_alike true true node other xs ys (pos k) alike = ap (λ (led : Bool). At led k) alike
aims_alike true true node other xs ys (negsuc n) alike = refl

leaders_stay : (node : ℕ) (r : ProduceRequest) (b : Broker) (ps : List Part) → (after_parts None node r b ps).leaders ≡ b.leaders
leaders_stay node r b [] = refl
leaders_stay node r b (p ∷ ps) = leaders_stay node r (step node r b p) ps ∙ ap (λ (c : Broker). c.leaders) (step_is node r b p)

module _ (node other : ℕ) (r : ProduceRequest) (xs ys : List ℕ) where
  abbrev AreLedAlike : Part → Type 0
  AreLedAlike p = nat_eq (get_or ys (nat_abs p.partition) 0) other ≡ nat_eq (get_or xs (nat_abs p.partition) 0) node

  aim_elsewhere : (b : Broker) (p : Part) → b.leaders ≡ xs → AreLedAlike p → aim_of other r (with_leaders ys b) p ≡ aim_of node r b p
  aim_elsewhere b p here alike =
      aims_alike (is_idempotent r) (bytes_eq p.topic b.topic) node other b.leaders ys p.partition
      (alike ∙ ap (λ (ls : List ℕ). nat_eq (get_or ls (nat_abs p.partition) 0) node) (sym here))

  step_elsewhere : (b : Broker) (p : Part) → b.leaders ≡ xs → AreLedAlike p → step other r (with_leaders ys b) p ≡ with_leaders ys (step node r b p)
  step_elsewhere b p here alike =
      step_is other r (with_leaders ys b) p
      ∙ ap (λ (aim : Aim). with_logs (with_leaders ys b) (logs_by aim p.records b.logs)) (aim_elsewhere b p here alike)
      ∙ ap (with_leaders ys) (sym (step_is node r b p))

  told_elsewhere : (b : Broker) (p : Part) → b.leaders ≡ xs → AreLedAlike p → told other r (with_leaders ys b) p ≡ told node r b p
  told_elsewhere b p here alike =
      told_is other r (with_leaders ys b) p
      ∙ ap (λ (aim : Aim). answer_by aim p.records b.logs) (aim_elsewhere b p here alike)
      ∙ sym (told_is node r b p)

  parts_elsewhere : (b : Broker) (ps : List Part) → b.leaders ≡ xs → AllByRecursion AreLedAlike ps → part_answers None other r (with_leaders ys b) ps ≡ part_answers None node r b ps
  parts_elsewhere b [] here alike = refl
  parts_elsewhere b (p ∷ ps) here alike =
      ap (λ (a : Answered). entry_of p.partition a ∷ part_answers None other r (step other r (with_leaders ys b) p) ps) (told_elsewhere b p here alike.0)
      ∙ ap (λ (c : Broker). part_answer None node r b p ∷ part_answers None other r c ps) (step_elsewhere b p here alike.0)
      ∙ ap (λ (es : List PartitionProduceResponse). part_answer None node r b p ∷ es)
      (parts_elsewhere (step node r b p) ps (ap (λ (c : Broker). c.leaders) (step_is node r b p) ∙ here) alike.1)

pub answer_elsewhere : (node other : ℕ) (r : ProduceRequest) (before after : Broker) (leaders : List ℕ) → AreApart (parts_of r) → TakesSome None node r before (parts_of r) after
    → AllByRecursion (IsLedAlike node before other (with_leaders leaders after)) (parts_of r)
    → produce_answer None other r (with_leaders leaders after) ≡ produce_answer None node r before
answer_elsewhere node other r before after leaders apart some alike =
    answers_alike other node r (with_leaders leaders after) after
    (parts_elsewhere node other r before.leaders leaders after (parts_of r) (ap (λ (b : Broker). b.leaders) some.leaves ∙ leaders_stay node r before some.taken) alike)
    ∙ answer_alike node r before after apart some
