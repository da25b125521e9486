-- What comes of one request, and what is sent back for it.
use Rattle.std.proofs.Common.{◌≡◌, ℕ, ◌≤◌, ◌<◌, List, [], ◌++◌, length, true, false, leb, Option, Some, None, Result, Ok, Err, IsErrAnd, inl, inr, refl, sym, ap, subst, ◌∙◌, arith}
use Rattle.std.specs.Global.{Vec}
use Rattle.std.proofs.lemmas.Bool.Decides.{nat_tests}
use Rattle.kp_frames.specs.declared.fault.FrameFault.TheVariants.{TooLarge}
use Rattle.kp_frames.specs.declared.fault.FrameFault.TheVariants as frame_fault
use Rattle.kp_frames.specs.declared.frame.TheConstants.{CONTENT_LIMIT}
use Rattle.kp_frames.specs.declared.request.Request.{Request}
use Rattle.kp_frames.specs.Response.{spelling}
use Rattle.kp_frames.specs.Stream.{frame}
use Rattle.kp_log.specs.declared.whim.Whim.{Whim}
use Rattle.kp_broker.specs.declared.fault.BrokerFault.{BrokerFault}
use Rattle.kp_broker.specs.declared.fault.BrokerFault.TheVariants as fault
use Rattle.kp_broker.specs.declared.plan.action.Action.TheVariants.{Repeat}
use Rattle.kp_broker.specs.declared.serving.replying.Reply.{Reply}
use Rattle.kp_broker.specs.declared.serving.replying.Reply.TheVariants.{Frame, Nothing, HangUp}
use Rattle.kp_broker.specs.Answering.{Responds, StopsWithin, after_unanswered}
use Rattle.kp_broker.specs.Answers.{answer_to, after_answer}
use Rattle.kp_broker.specs.Broker.{Broker}
use Rattle.kp_broker.specs.Replies.{Gives, RepliesOn, RepliesBy}
use Rattle.kp_broker.specs.Serving.{Course, Ending, Refuses, silent, ended, and_then, answered, unheard, StopsBy}

-- ---- what comes next

pub and_then-open : (written : List ℕ) (b : Broker) (next : Broker → Course)
    → and_then (record { written = written; broker = b; ending = None }) next ≡ record { written = written ++ (next b).written; broker = (next b).broker; ending = (next b).ending }
unfolding and_then
and_then-open written b next = refl

pub and_then-silent : (b : Broker) (next : Broker → Course) → and_then (silent b) next ≡ next b
and_then-silent b next = and_then-open [] b next

ended-first : (e : Ending) (b : Broker) (next : Broker → Course) → and_then (ended e b) next ≡ ended e b
unfolding and_then
ended-first e b next = refl

-- ---- an answer

answered-small : (whim : Option Whim) (node : ℕ) (request : Request) (b : Broker) → length (spelling (answer_to whim node b request)) ≤ CONTENT_LIMIT
    → answered whim node request b ≡ record { written = frame.spell (spelling (answer_to whim node b request)); broker = after_answer whim node b request.body; ending = None }
answered-small whim node request b small =
    let fits : leb (length (spelling (answer_to whim node b request))) CONTENT_LIMIT ≡ true = grind (arith, nat_tests) in
    rw fits refl

answered-large : (whim : Option Whim) (node : ℕ) (request : Request) (b : Broker) → CONTENT_LIMIT < length (spelling (answer_to whim node b request))
    → answered whim node request b ≡ ended (Refuses TooLarge) (after_unanswered whim node b request.body)
answered-large whim node request b large =
    let fits : leb (length (spelling (answer_to whim node b request))) CONTENT_LIMIT ≡ false = grind (arith, nat_tests) in
    rw fits refl

pub answered-ok : (whim : Option Whim) (node : ℕ) (request : Request) (b after : Broker) (bytes : Vec ℕ) → Responds (λ (bytes : Vec ℕ). bytes.items) whim node b request (Ok bytes) after
    → answered whim node request b ≡ record { written = bytes.items; broker = after; ending = None }
answered-ok whim node request b after bytes r =
    answered-small whim node request b r.0.size
    ∙ (λ i. record { written = sym r.0.spelled i; broker = sym r.1 i; ending = None })

-- ---- two answers

first_failed : (node : ℕ) (request : Request) (b mid : Broker) (refused : BrokerFault) → Responds (λ (bytes : Vec ℕ). bytes.items) None node b request (Err refused) mid
    → RepliesBy (Some Repeat) node request b (Err refused) mid
first_failed node request b mid (fault.Frame frame_fault.TooLarge) r =
    ap (λ c. and_then (unheard c) (answered None node request)) (answered-large None node request b r.0.size ∙ ap (ended (Refuses TooLarge)) (sym r.1))
    ∙ ended-first (Refuses TooLarge) mid (answered None node request)
first_failed node request b mid (fault.Frame frame_fault.Short) r = absurd r
first_failed node request b mid (fault.Frame frame_fault.Trailing) r = absurd r
first_failed node request b mid (fault.Frame frame_fault.UnknownApi) r = absurd r
first_failed node request b mid (fault.Frame frame_fault.UnknownVersion) r = absurd r
first_failed node request b mid (fault.Frame (frame_fault.Wire w)) r = absurd r
first_failed node request b mid (fault.Frame frame_fault.OutOfMemory) r = absurd r
first_failed node request b mid (fault.Frame frame_fault.Mismatch) r = absurd r
first_failed node request b mid fault.OutOfMemory r = inl r
first_failed node request b mid fault.Io r = absurd r
first_failed node request b mid fault.TooLong r = absurd r

pub repeat-failed : (node : ℕ) (request : Request) (b mid : Broker) (refused : BrokerFault) (r : Result Reply BrokerFault) → IsErrAnd r (λ e. e ≡ refused) → Responds (λ (bytes : Vec ℕ). bytes.items) None node b request (Err refused) mid
    → RepliesBy (Some Repeat) node request b r mid
repeat-failed node request b mid refused (Ok reply) is responds = absurd is
repeat-failed node request b mid refused (Err e) is responds = subst (λ e. RepliesBy (Some Repeat) node request b (Err e) mid) (sym is) (first_failed node request b mid refused responds)

-- what holds of a course, and of want of memory, holds of those that are like it
pub gives-alike : (c d : Course) (P Q : Type 0) → d ≡ c → (P → Q) → (r : Result Reply BrokerFault) (after : Broker) → Gives c P r after → Gives d Q r after
gives-alike c d P Q same so (Ok (Frame bytes)) after g = same ∙ g
gives-alike c d P Q same so (Ok Nothing) after g = same ∙ g
gives-alike c d P Q same so (Ok HangUp) after g = same ∙ g
gives-alike c d P Q same so (Err (fault.Frame f)) after g = same ∙ g
gives-alike c d P Q same so (Err fault.OutOfMemory) after g = so g
gives-alike c d P Q same so (Err fault.Io) after g = g
gives-alike c d P Q same so (Err fault.TooLong) after g = g

pub repeat-second : (node : ℕ) (request : Request) (b mid after : Broker) (bytes : Vec ℕ) (r : Result Reply BrokerFault) → Responds (λ (bytes : Vec ℕ). bytes.items) None node b request (Ok bytes) mid
    → RepliesOn None node request mid r after → RepliesBy (Some Repeat) node request b r after
repeat-second node request b mid after bytes r first second =
    let first_is = answered-ok None node request b mid bytes first in
    let same : and_then (unheard (answered None node request b)) (answered None node request) ≡ answered None node request mid =
    ap (λ c. and_then (unheard c) (answered None node request)) first_is ∙ and_then-silent mid (answered None node request) in
    let broker : mid ≡ (answered None node request b).broker = sym (ap (λ c. c.broker) first_is) in
    gives-alike (answered None node request mid) (and_then (unheard (answered None node request b)) (answered None node request))
    (StopsWithin None node mid request.body after) (StopsBy (Some Repeat) node request b after) same
    (λ stops. inr (ap (λ c. c.ending) first_is, subst (λ m. StopsWithin None node m request.body after) broker stops)) r after second
