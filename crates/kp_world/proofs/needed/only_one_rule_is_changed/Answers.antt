use Rattle.std.proofs.Common.{◌≡◌, ℕ, List, [], ◌∷◌, map, Some, None, refl, ap}
use Rattle.std.specs.Prelude.{Option, if◌then◌else◌, slice_get}
use Rattle.kp_frames.specs.declared.response.Response.{Response}
use Rattle.kp_frames.specs.declared.response.ResponseBody.{ResponseBody}
use Rattle.kp_frames.specs.declared.response.ResponseBody.TheVariants as body
use Rattle.kp_rules.specs.Records.{Demand, Produce, InitProducerId, Partition, Request, Core}
use Rattle.kp_rules.specs.declared.fault.CoreFault.TheVariants.{Ended}
use Rattle.kp_rules.specs.Replies.{Replies, awaited, refuse_as, unknown, settle, response_step}
use Rattle.kp_rules.specs.Settling.{settle_batch}
use Rattle.kp_world.specs.Client.{client, reply_line, replying}
use Rattle.kp_world.specs.Events.{WorldEvent}
use Rattle.kp_world.specs.Events as event
use Rattle.kp_world.specs.Noting.{noted}
use Rattle.kp_world.specs.OtherRules.{changing_first, settled_by, response_by, replied_by, settling_by}
use Rattle.kp_world.specs.World.{Reply, World}
use Rattle.kp_world.proofs.needed.only_one_rule_is_changed.Goals as goal

-- ---- before a request

all_same : (ts : List Partition) → map (λ (t : Partition). t) ts ≡ ts
all_same [] = refl
all_same (t ∷ ts) = ap (λ (us : List Partition). t ∷ us) (all_same ts)

with_partitions : World → List Partition → World
with_partitions w ts = record w { core = record w.core { partitions = ts } }

changes_none : (e : WorldEvent) (w : World) → changing_first (λ c now t. t) e w ≡ client e w
unfolding with_partitions
changes_none (event.Send node) w = ap (λ (ts : List Partition). client (event.Send node) (with_partitions w ts)) (all_same w.core.partitions)
changes_none (event.Accept s p at x) w = refl
changes_none (event.Take s) w = refl
changes_none (event.Now moment) w = refl
changes_none (event.Tick node) w = refl
changes_none (event.Deliver k) w = refl
changes_none (event.Reply j) w = refl
changes_none (event.Drop node) w = refl
changes_none (event.Lead p node) w = refl
changes_none (event.Other p records) w = refl
changes_none event.Close w = refl
changes_none event.End w = refl
changes_none event.Flush w = refl

pub returns-clause-going_again : goal.returns-clause-going_again
returns-clause-going_again c = changes_none

-- ---- an answer

same_settled : (now : ℕ) (s : Core) (k : ℕ) (d : Demand ℕ) (x : ResponseBody) → settled_by settle_batch now s k d x ≡ settle now s k d x
same_settled now s k (Produce ps) (body.Produce x) = refl
same_settled now s k (Produce ps) (body.Metadata x) = refl
same_settled now s k (Produce ps) (body.InitProducerId x) = refl
same_settled now s k (InitProducerId p) (body.Produce x) = refl
same_settled now s k (InitProducerId p) (body.Metadata x) = refl
same_settled now s k (InitProducerId p) (body.InitProducerId x) = refl

abbrev by_request : Core → (Request → Replies) → Option Request → Replies
by_request s heard o = elim o [ None ↦ unknown s | Some r ↦ heard r ]

same_response : (now : ℕ) (response : Response) (s : Core) → response_by settle_batch now response s ≡ response_step now response s
unfolding response_step
same_response now response s = ap (λ (y : Replies). if s.ended then refuse_as Ended s else y) (at_request (awaited response.correlation s))
  where
    at_request : (o : Option Request) → by_request s (λ r. settled_by settle_batch now s r.correlation r.demand response.body) o ≡ by_request s (λ r. settle now s r.correlation r.demand response.body) o
    at_request None = refl
    at_request (Some r) = same_settled now s r.correlation r.demand response.body

same_replied : (j : ℕ) (o : Option Reply) (w : World) → replied_by settle_batch j o w ≡ replying j o w
same_replied j None w = refl
same_replied j (Some r) w = ap (λ (step : Replies). Some (noted step.after (reply_line j step.answer) step.told w)) (same_response w.moment r.response w.core)

settles_alike : (e : WorldEvent) (w : World) → settling_by settle_batch e w ≡ client e w
unfolding client
settles_alike (event.Reply j) w = same_replied j (slice_get w.replies j) w
settles_alike (event.Accept s p at x) w = refl
settles_alike (event.Take s) w = refl
settles_alike (event.Now moment) w = refl
settles_alike (event.Tick node) w = refl
settles_alike (event.Send node) w = refl
settles_alike (event.Deliver k) w = refl
settles_alike (event.Drop node) w = refl
settles_alike (event.Lead p node) w = refl
settles_alike (event.Other p records) w = refl
settles_alike event.Close w = refl
settles_alike event.End w = refl
settles_alike event.Flush w = refl

pub returns-clause-settling : goal.returns-clause-settling
returns-clause-settling c = settles_alike
