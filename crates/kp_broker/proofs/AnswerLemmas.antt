-- What comes of a content that is read as a request, by what comes of the request.
use Rattle.std.proofs.Common.{◌≡◌, ◌⊎◌, ℕ, List, Option, None, Result, Ok, inr, sym, subst}
use Rattle.kp_frames.specs.declared.fault.FrameFault.{FrameFault}
use Rattle.kp_frames.specs.declared.request.Request.{Request}
use Rattle.kp_frames.specs.Request.{request_at}
use Rattle.kp_broker.specs.declared.fault.BrokerFault.{BrokerFault}
use Rattle.kp_broker.specs.declared.plan.action.Action.{Action}
use Rattle.kp_broker.specs.declared.serving.replying.Reply.{Reply}
use Rattle.kp_broker.specs.Answering.{AnswersAs, AnswersRead, Responds}
use Rattle.kp_broker.specs.Broker.{Broker, counted}
use Rattle.kp_broker.specs.Plan.{Plan}
use Rattle.kp_broker.specs.Replies.{Replies, RepliesBy}
use Rattle.kp_broker.specs.Serving.{action_for, done_for, StopsFor}
use Rattle.kp_broker.proofs.ReplyLemmas.{gives-alike}

pub answered_as : {X : Type 0} (view : X → List ℕ) (node : ℕ) (content : List ℕ) (before mid : Broker) (request : Request) (result : Result X BrokerFault) (after : Broker)
    → Responds view None node mid request result after → mid ≡ counted request.body before → request_at content ≡ Ok request → AnswersAs view node content before result after
answered_as view node content before mid request result after responds counts read =
    inr (subst (λ (r : Result Request FrameFault). AnswersRead view node before r result after) (sym read) (subst (λ (b : Broker). Responds view None node b request result after) counts responds))

pub replied_as : (node : ℕ) (plan : Plan) (content : List ℕ) (before mid : Broker) (request : Request) (action : Option Action) (result : Result Reply BrokerFault) (after : Broker)
    → RepliesBy action node request mid result after → action ≡ action_for plan before request.body → mid ≡ counted request.body before → request_at content ≡ Ok request → Replies node plan content before result after
replied_as node plan content before mid request action result after replies planned counts read =
    let by : RepliesBy (action_for plan before request.body) node request (counted request.body before) result after =
    subst (λ (a : Option Action). RepliesBy a node request (counted request.body before) result after) planned (subst (λ (b : Broker). RepliesBy action node request b result after) counts replies) in
    gives-alike (done_for node plan before (Ok request)) (done_for node plan before (request_at content)) (StopsFor node plan before (Ok request) after)
    ((after ≡ before) ⊎ StopsFor node plan before (request_at content) after)
    (λ i. done_for node plan before (read i)) (λ stops. inr (subst (λ (r : Result Request FrameFault). StopsFor node plan before r after) (sym read) stops)) result after by
