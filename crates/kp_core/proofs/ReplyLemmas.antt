-- A response is heard, case by case.
use Rattle.std.proofs.Common.{◌≡◌, ◌∙◌, ℕ, ◌<◌, Bool, true, false, List, length, Some, None, Ok, Err, w32, refl, sym, ap, subst}
use Rattle.std.specs.Prelude.{ℤ, pos, IfErr, IfOk, Option, Result, find, ◌&&◌, ◌==◌, if◌then◌else◌}
use Rattle.std.specs.List.{AllByRecursion, list_all}
use Rattle.std.specs.Ordering.{int_eq}
use mir.Val.{SFits, of_z, to_z}
use Rattle.std.proofs.lemmas.Int.{to_z-of_z}
use Rattle.kp_frames.specs.declared.fault.FrameFault.TheVariants.{Mismatch}
use Rattle.kp_frames.specs.declared.produce.ProduceResponse.{ProduceResponse}
use Rattle.kp_frames.specs.declared.producer_id.InitProducerIdResponse.{InitProducerIdResponse}
use Rattle.kp_frames.specs.declared.response.Response.{Response}
use Rattle.kp_frames.specs.declared.response.ResponseBody.{ResponseBody}
use Rattle.kp_frames.specs.declared.response.ResponseBody.TheVariants as body
use Rattle.kp_rules.specs.declared.fault.CoreFault.{CoreFault}
use Rattle.kp_rules.specs.declared.fault.CoreFault.TheVariants.{Ended, OutOfMemory, ReplyFault}
use Rattle.kp_rules.specs.declared.ticked.Replied.{Replied}
use Rattle.kp_rules.specs.Attempts.{partitions_of}
use Rattle.kp_rules.specs.Calls.{Gives}
use Rattle.kp_rules.specs.InOrder.{AreDistinct, IsInOrder, IsRequest}
use Rattle.kp_rules.specs.Mismatch.{answers_batches, answers_id, entries_of, is_one_topic}
use Rattle.kp_rules.specs.Partitions.{partition_at}
use Rattle.kp_rules.specs.Records.{Called, Demand, Produce, InitProducerId, Request, Core, quietly}
use Rattle.kp_rules.specs.Replies.{Replies, awaited, known, refuse_as, response_step, settle, settle_batches, settle_id, unknown}
use Rattle.kp_rules.proofs.ListLemmas.{at_contained}
use Rattle.kp_rules.proofs.OutcomeLemmas.{in_flight}
use Rattle.kp_core.specs.Hearing.{Hears}
use Rattle.kp_core.specs.Matching.{answers_one}
use Rattle.kp_core.proofs.EntryLemmas.{answers-is}

-- ---- the request that a reply names

pub awaited-is : (k : ℤ) (s : Core) (o : Option Request) (rs : List Request) → SFits w32 k → rs ≡ s.requests
    → o ≡ find (λ r. int_eq (pos r.correlation) (to_z w32 (of_z w32 k))) rs → awaited k s ≡ o
unfolding awaited
awaited-is k s o rs fits same is =
    sym (is ∙ ap (find (λ r. int_eq (pos r.correlation) (to_z w32 (of_z w32 k)))) same
    ∙ ap (λ (j : ℤ). find (λ (r : Request). int_eq (pos r.correlation) j) s.requests) (to_z-of_z w32 k fits))

-- its partitions are there, each of them once
pub asked : (k : ℤ) (s : Core) (r : Request) (ps : List ℕ) → IsInOrder s → awaited k s ≡ Some r → r.demand ≡ Produce ps
    → AllByRecursion (λ p. p < length s.partitions) ps × AreDistinct ps
asked k s r ps h it is =
    let at = at_contained (IsRequest (length s.partitions) s.correlation) s.requests r h.requests (in_flight k s r it).0 in (
      subst (λ (d : Demand ℕ). AllByRecursion (λ p. p < length s.partitions) (partitions_of d)) is at.there,
      subst (λ (d : Demand ℕ). AreDistinct (partitions_of d)) is at.once,
    )

-- ---- the response

pub gives : {called made : Replies} → called ≡ made → Gives called made.answer made.after
gives e = (ap (λ (x : Replies). x.answer) e, ap (λ (x : Replies). x.after) (sym e))

abbrev by_request : ℕ → Core → ResponseBody → Option Request → Replies
by_request now s x o = elim o [ None ↦ unknown s | Some r ↦ settle now s r.correlation r.demand x ]

going : (now : ℕ) (x : Response) (s : Core) → s.ended ≡ false → response_step now x s ≡ by_request now s x.body (awaited x.correlation s)
unfolding response_step
going now x s e = ap (λ (b : Bool). if b then refuse_as Ended s else by_request now s x.body (awaited x.correlation s)) e

pub unknown_heard : (now : ℕ) (x : Response) (s : Core) → s.ended ≡ false → awaited x.correlation s ≡ None → response_step now x s ≡ unknown s
unknown_heard now x s e none = going now x s e ∙ ap (by_request now s x.body) none

-- It is heard, and its correlation id k names this request.
pub record IsHeard (x : Response) (s : Core) (k : ℕ) (r : Request) : Type 0 where
  pub going : s.ended ≡ false
  pub named : awaited x.correlation s ≡ Some r
  pub under : k ≡ r.correlation

heard : (now : ℕ) (x : Response) (s : Core) (k : ℕ) (r : Request) (d : Demand ℕ) (b : ResponseBody) → IsHeard x s k r → r.demand ≡ d → x.body ≡ b
    → response_step now x s ≡ settle now s k d b
heard now x s k r d b h is has =
    going now x s h.going ∙ ap (by_request now s x.body) h.named
    ∙ ap (λ (e : Demand ℕ). settle now s r.correlation e x.body) is ∙ ap (settle now s r.correlation d) has
    ∙ ap (λ (j : ℕ). settle now s j d b) (sym h.under)

abbrev by_batches : ℕ → Core → ℕ → List ℕ → ProduceResponse → Bool → Replies
by_batches now s k ps y b = if b then known (settle_batches now k ps y s) else refuse_as (ReplyFault Mismatch) s

pub batches_heard : (now : ℕ) (x : Response) (s : Core) (k : ℕ) (r : Request) (ps : List ℕ) (y : ProduceResponse) → IsHeard x s k r
    → r.demand ≡ Produce ps → x.body ≡ body.Produce y → answers_batches k ps s y ≡ true
    → response_step now x s ≡ known (settle_batches now k ps y s)
batches_heard now x s k r ps y h is has fits = heard now x s k r (Produce ps) (body.Produce y) h is has ∙ ap (by_batches now s k ps y) fits

pub batches_refused : (now : ℕ) (x : Response) (s : Core) (k : ℕ) (r : Request) (ps : List ℕ) (y : ProduceResponse) → IsHeard x s k r
    → r.demand ≡ Produce ps → x.body ≡ body.Produce y → answers_batches k ps s y ≡ false
    → response_step now x s ≡ refuse_as (ReplyFault Mismatch) s
batches_refused now x s k r ps y h is has fails = heard now x s k r (Produce ps) (body.Produce y) h is has ∙ ap (by_batches now s k ps y) fails

abbrev by_id : ℕ → Core → ℕ → InitProducerIdResponse → Bool → Replies
by_id now s p y b = if b then known (quietly (settle_id now p y s) 0) else refuse_as (ReplyFault Mismatch) s

pub id_heard : (now : ℕ) (x : Response) (s : Core) (k : ℕ) (r : Request) (p : ℕ) (y : InitProducerIdResponse) → IsHeard x s k r
    → r.demand ≡ InitProducerId p → x.body ≡ body.InitProducerId y → answers_id y ≡ true
    → response_step now x s ≡ known (quietly (settle_id now p y s) 0)
id_heard now x s k r p y h is has fits = heard now x s k r (InitProducerId p) (body.InitProducerId y) h is has ∙ ap (by_id now s p y) fits

pub id_refused : (now : ℕ) (x : Response) (s : Core) (k : ℕ) (r : Request) (p : ℕ) (y : InitProducerIdResponse) → IsHeard x s k r
    → r.demand ≡ InitProducerId p → x.body ≡ body.InitProducerId y → answers_id y ≡ false
    → response_step now x s ≡ refuse_as (ReplyFault Mismatch) s
id_refused now x s k r p y h is has fails = heard now x s k r (InitProducerId p) (body.InitProducerId y) h is has ∙ ap (by_id now s p y) fails

-- it is not of the request's api
pub other_refused : (now : ℕ) (x : Response) (s : Core) (k : ℕ) (r : Request) (d : Demand ℕ) (b : ResponseBody) → IsHeard x s k r → r.demand ≡ d → x.body ≡ b
    → ((ps : List ℕ) (y : ProduceResponse) → d ≡ Produce ps → b ≡ body.Produce y → ⊥)
    → ((p : ℕ) (y : InitProducerIdResponse) → d ≡ InitProducerId p → b ≡ body.InitProducerId y → ⊥)
    → response_step now x s ≡ refuse_as (ReplyFault Mismatch) s
other_refused now x s k r d b h is has no_batches no_id = heard now x s k r d b h is has ∙ refuses d b no_batches no_id
  where
    refuses : (e : Demand ℕ) (c : ResponseBody) → ((ps : List ℕ) (y : ProduceResponse) → e ≡ Produce ps → c ≡ body.Produce y → ⊥)
        → ((p : ℕ) (y : InitProducerIdResponse) → e ≡ InitProducerId p → c ≡ body.InitProducerId y → ⊥)
        → settle now s k e c ≡ refuse_as (ReplyFault Mismatch) s
    refuses (Produce ps) (body.Produce y) f g = absurd (f ps y refl refl)
    refuses (Produce ps) (body.Metadata y) f g = refl
    refuses (Produce ps) (body.InitProducerId y) f g = refl
    refuses (InitProducerId p) (body.Produce y) f g = refl
    refuses (InitProducerId p) (body.Metadata y) f g = refl
    refuses (InitProducerId p) (body.InitProducerId y) f g = absurd (g p y refl refl)

-- ---- what is given

pub gives_known : {n : ℕ} {t : Core} (now : ℕ) (x : Response) (s : Core) (made : Called ℕ) → response_step now x s ≡ known made → n ≡ made.answer → t ≡ made.after
    → Gives (response_step now x s) (Ok (record { known = true; reports = n })) t
gives_known now x s made is answer after = (
  ap (λ (y : Replies). y.answer) is ∙ ap (λ (m : ℕ). let y : Replied = record { known = true; reports = m } in Ok y) (sym answer),
  after ∙ ap (λ (y : Replies). y.after) (sym is),
)

-- memory may be refused
pub hears_id : (now p : ℕ) (x : Response) (s t : Core) (y : InitProducerIdResponse) (result : Result Replied CoreFault)
    → response_step now x s ≡ known (quietly (settle_id now p y s) 0)
    → IfOk result (λ replied. (t ≡ settle_id now p y s) × (replied ≡ record { known = true; reports = 0 }))
    → IfErr result (λ fault. (t ≡ s) × (fault ≡ OutOfMemory)) → Hears now x s result t
hears_id now p x s t y (Ok replied) is ok err = (
  ap (λ (z : Replies). z.answer) is ∙ ap (λ (a : Replied). Ok a) (sym ok.1),
  ok.0 ∙ ap (λ (z : Replies). z.after) (sym is),
)
hears_id now p x s t y (Err fault) is ok err = subst (λ (f : CoreFault). Hears now x s (Err f) t) (sym err.1) err.0

-- ---- whether it is one to the request

-- what the tests of a response say, one after the other
abbrev tests : Bool → Bool → Bool → Bool
tests topic count each = (topic && count) && each

pub no_topic : (k : ℕ) (ps : List ℕ) (s : Core) (y : ProduceResponse) → is_one_topic s.names.topic y.topics ≡ false → answers_batches k ps s y ≡ false
no_topic k ps s y e =
    answers-is k ps s y
    ∙ ap (λ (b : Bool). tests b (length (entries_of y) == length ps) (list_all (λ p. answers_one (entries_of y) k p (partition_at p s.partitions)) ps)) e

pub other_count : (k : ℕ) (ps : List ℕ) (s : Core) (y : ProduceResponse) → is_one_topic s.names.topic y.topics ≡ true
    → (length (entries_of y) == length ps) ≡ false → answers_batches k ps s y ≡ false
other_count k ps s y e f =
    answers-is k ps s y
    ∙ ap (λ (b : Bool). tests b (length (entries_of y) == length ps) (list_all (λ p. answers_one (entries_of y) k p (partition_at p s.partitions)) ps)) e
    ∙ ap (λ (b : Bool). tests true b (list_all (λ p. answers_one (entries_of y) k p (partition_at p s.partitions)) ps)) f

pub each_says : (k : ℕ) (ps : List ℕ) (s : Core) (y : ProduceResponse) → is_one_topic s.names.topic y.topics ≡ true
    → (length (entries_of y) == length ps) ≡ true
    → answers_batches k ps s y ≡ list_all (λ p. answers_one (entries_of y) k p (partition_at p s.partitions)) ps
each_says k ps s y e f =
    answers-is k ps s y
    ∙ ap (λ (b : Bool). tests b (length (entries_of y) == length ps) (list_all (λ p. answers_one (entries_of y) k p (partition_at p s.partitions)) ps)) e
    ∙ ap (λ (b : Bool). tests true b (list_all (λ p. answers_one (entries_of y) k p (partition_at p s.partitions)) ps)) f
