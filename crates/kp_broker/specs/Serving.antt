-- What comes of the frames of a connection to a node, by a plan.
use Rattle.std.specs.Prelude.{◌≡◌, ◌⊎◌, ℕ, ◌*◌, ◌≤◌, List, [], ◌∷◌, ◌++◌, length, Bool, true, false, Option, Some, None, is_some, Result, Ok, Err, nat_le, if◌then◌else◌}
use Rattle.kp_frames.specs.declared.fault.FrameFault.{FrameFault}
use Rattle.kp_frames.specs.declared.fault.FrameFault.TheVariants.{TooLarge}
use Rattle.kp_frames.specs.declared.frame.TheConstants.{CONTENT_LIMIT}
use Rattle.kp_frames.specs.declared.request.Request.{Request}
use Rattle.kp_frames.specs.declared.request.RequestBody.{RequestBody}
use Rattle.kp_frames.specs.declared.request.RequestBody.TheVariants.{Produce, Metadata, InitProducerId}
use Rattle.kp_frames.specs.Request.{request_at}
use Rattle.kp_frames.specs.Response.{spelling}
use Rattle.kp_frames.specs.Stream.{frame, stream, is_faulty}
use Rattle.kp_log.specs.declared.whim.Whim.{Whim}
use Rattle.kp_log.specs.declared.whim.Whim.TheVariants as whim
use Rattle.kp_broker.specs.declared.fault.BrokerFault.{BrokerFault}
use Rattle.kp_broker.specs.declared.fault.BrokerFault.TheVariants.{Frame, Io, OutOfMemory, TooLong}
use Rattle.kp_broker.specs.declared.plan.action.Action.{Action}
use Rattle.kp_broker.specs.declared.plan.action.Action.TheVariants.{DropRequest, DropReply, Repeat, Refuse, Late, HangUp, Move}
use Rattle.kp_broker.specs.declared.serving.Served.{Served}
use Rattle.kp_broker.specs.declared.serving.Served.TheVariants.{End, HungUp}
use Rattle.kp_broker.specs.declared.serving.TheConstants.{READ_LIMIT}
use Rattle.kp_broker.specs.declared.serving.streams.TheConstants.{PIECE_LIMIT}
use Rattle.kp_broker.specs.Answering.{StopsWithin, after_unanswered}
use Rattle.kp_broker.specs.Answers.{answer_to, after_answer}
use Rattle.kp_broker.specs.Broker.{Broker, counted, moved}
use Rattle.kp_broker.specs.Calls.{Answer, Told, came, gone, reads, AreGood, EndsWith, HasFailed, MetEnd}
use Rattle.kp_broker.specs.Plan.{Plan, planned}

-- ---- what comes of frames

-- how a connection is ended by what came on it
pub data Ending : Type 0 where
  HangsUp : Ending
  Refuses : FrameFault → Ending

-- The bytes that are written, the broker after it, and how the connection ended, where it did.
pub record Course : Type 0 where
  pub written : List ℕ
  pub broker : Broker
  pub ending : Option Ending

-- nothing is written, and the connection stays open
abbrev pub silent : Broker → Course
silent b = record { written = []; broker = b; ending = None }

-- nothing is written, and the connection ends
abbrev pub ended : Ending → Broker → Course
ended ending b = record { written = []; broker = b; ending = Some ending }

-- One thing, and behind it what comes of the broker as that left it; nothing behind an end.
unfoldable pub and_then : Course → (Broker → Course) → Course
and_then c next =
    let later = next c.broker in
    if is_some c.ending
    then c
    else record { written = c.written ++ later.written; broker = later.broker; ending = later.ending }

-- ---- one request

-- Its answer as a frame, on a whim or by the rules. One that is too large for a frame ends the connection.
abbrev pub answered : Option Whim → ℕ → Request → Broker → Course
answered whim node request b =
    let content = spelling (answer_to whim node b request) in
    if nat_le (length content) CONTENT_LIMIT
    then record { written = frame.spell content; broker = after_answer whim node b request.body; ending = None }
    else ended (Refuses TooLarge) (after_unanswered whim node b request.body)

-- the same, and what is written is lost
abbrev pub unheard : Course → Course
unheard c = record c { written = [] }

abbrev pub done_by : Option Action → ℕ → Request → Broker → Course
done_by None node request b = answered None node request b
done_by (Some DropRequest) node request b = silent b
done_by (Some DropReply) node request b = unheard (answered None node request b)
done_by (Some Repeat) node request b = and_then (unheard (answered None node request b)) (answered None node request)
done_by (Some (Refuse code)) node request b = answered (Some (whim.Refuse code)) node request b
done_by (Some (Late code)) node request b = answered (Some (whim.Late code)) node request b
done_by (Some HangUp) node request b = ended HangsUp b
done_by (Some (Move to)) node request b = answered None node request (moved node to b)

-- a plan's numbers count Produce requests, whatever connections they came on, and to whatever nodes
abbrev pub action_for : Plan → Broker → RequestBody → Option Action
action_for plan b (Produce r) = planned plan b.produced
action_for plan b (Metadata r) = None
action_for plan b (InitProducerId r) = None

-- by what a frame's content is read as
abbrev pub done_for : ℕ → Plan → Broker → Result Request FrameFault → Course
done_for node plan b (Ok request) = done_by (action_for plan b request.body) node request (counted request.body b)
done_for node plan b (Err fault) = ended (Refuses fault) b

abbrev pub handled : ℕ → Plan → Broker → List ℕ → Course
handled node plan b content = done_for node plan b (request_at content)

-- ---- many frames

-- each by the broker as those before it left it, until one ends the connection
abbrev pub served : ℕ → Plan → Broker → List (List ℕ) → Course
served node plan b [] = silent b
served node plan b (content ∷ contents) = and_then (handled node plan b content) (λ after. served node plan after contents)

-- what stands behind the frames of a connection ends it where it begins with the size of no frame
abbrev pub behind_frames : Bool → Broker → Course
behind_frames false b = silent b
behind_frames true b = ended (Refuses TooLarge) b

-- the bytes that were read on a connection
abbrev pub heard : ℕ → Plan → Broker → List ℕ → Course
heard node plan b bytes = and_then (served node plan b (stream bytes).frames) (behind_frames (is_faulty bytes))

-- ---- a connection that broke

-- nothing more was done
abbrev pub IsStill : Broker → List ℕ → Broker → Type 0
IsStill b written after = (written ≡ []) × (after ≡ b)

-- one thing was done whole, and then what Next says
pub record IsBehind (c : Course) (Next : List ℕ → Broker → Type 0) (written : List ℕ) (after : Broker) : Type 0 where
  pub goes_on : c.ending ≡ None
  pub later : List ℕ
  pub split : written ≡ c.written ++ later
  pub next : Next later after

-- It broke before any more of these frames, within what comes of the next, or behind that.
abbrev pub Breaks : (Broker → List ℕ → List ℕ → Broker → Type 0) → ℕ → Plan → Broker → List (List ℕ) → List ℕ → Broker → Type 0
Breaks Within node plan b [] written after = IsStill b written after
Breaks Within node plan b (content ∷ contents) written after =
    let c = handled node plan b content in
    IsStill b written after
    ⊎ (Within b content written after ⊎ IsBehind c (Breaks Within node plan c.broker contents) written after)

-- The writer failed: the rest of an answer is lost.
abbrev pub LosesAnswer : ℕ → Plan → Broker → List ℕ → List ℕ → Broker → Type 0
LosesAnswer node plan b content written after =
    (lost : List ℕ) × (handled node plan b content ≡ record { written = written ++ lost; broker = after; ending = None })

-- Memory was refused within an answer, or within the first of two.
abbrev pub StopsBy : Option Action → ℕ → Request → Broker → Broker → Type 0
StopsBy None node request b after = StopsWithin None node b request.body after
StopsBy (Some DropRequest) node request b after = ⊥
StopsBy (Some DropReply) node request b after = StopsWithin None node b request.body after
StopsBy (Some Repeat) node request b after =
    let first = answered None node request b in
    StopsWithin None node b request.body after
    ⊎ ((first.ending ≡ None) × StopsWithin None node first.broker request.body after)
StopsBy (Some (Refuse code)) node request b after = StopsWithin (Some (whim.Refuse code)) node b request.body after
StopsBy (Some (Late code)) node request b after = StopsWithin (Some (whim.Late code)) node b request.body after
StopsBy (Some HangUp) node request b after = ⊥
StopsBy (Some (Move to)) node request b after = StopsWithin None node (moved node to b) request.body after

abbrev pub StopsFor : ℕ → Plan → Broker → Result Request FrameFault → Broker → Type 0
StopsFor node plan b (Ok request) after =
    StopsBy (action_for plan b request.body) node request (counted request.body b) after
StopsFor node plan b (Err fault) after = ⊥

-- Memory was refused: no answer goes out.
abbrev pub LosesMemory : ℕ → Plan → Broker → List ℕ → List ℕ → Broker → Type 0
LosesMemory node plan b content written after = (written ≡ []) × StopsFor node plan b (request_at content) after

-- ---- a connection

-- what was written, and what became of the broker, by the frames that came
abbrev pub ServesFrames : ℕ → Plan → Broker → List (List ℕ) → Result Served BrokerFault → List ℕ → Broker → Type 0
ServesFrames node plan b frames (Ok End) written after =
    served node plan b frames ≡ record { written = written; broker = after; ending = None }
ServesFrames node plan b frames (Ok HungUp) written after =
    served node plan b frames ≡ record { written = written; broker = after; ending = Some HangsUp }
ServesFrames node plan b frames (Err (Frame fault)) written after =
    served node plan b frames ≡ record { written = written; broker = after; ending = Some (Refuses fault) }
ServesFrames node plan b frames (Err Io) written after = Breaks (LosesAnswer node plan) node plan b frames written after
ServesFrames node plan b frames (Err OutOfMemory) written after = Breaks (LosesMemory node plan) node plan b frames written after
ServesFrames node plan b frames (Err TooLong) written after = ⊥

-- the same by the bytes that were read
abbrev pub ServesAs : ℕ → Plan → Broker → List ℕ → Result Served BrokerFault → List ℕ → Broker → Type 0
ServesAs node plan b bytes (Ok End) written after =
    heard node plan b bytes ≡ record { written = written; broker = after; ending = None }
ServesAs node plan b bytes (Ok HungUp) written after =
    heard node plan b bytes ≡ record { written = written; broker = after; ending = Some HangsUp }
ServesAs node plan b bytes (Err (Frame fault)) written after =
    heard node plan b bytes ≡ record { written = written; broker = after; ending = Some (Refuses fault) }
ServesAs node plan b bytes (Err Io) written after = Breaks (LosesAnswer node plan) node plan b (stream bytes).frames written after
ServesAs node plan b bytes (Err OutOfMemory) written after = Breaks (LosesMemory node plan) node plan b (stream bytes).frames written after
ServesAs node plan b bytes (Err TooLong) written after =
    heard node plan b bytes ≡ record { written = written; broker = after; ending = None }

-- the same by node 0
abbrev pub Serves : Plan → Broker → List ℕ → Result Served BrokerFault → List ℕ → Broker → Type 0
Serves plan b bytes result written after = ServesAs 0 plan b bytes result written after

-- ---- the calls on a connection

-- The answers were good, but the last where the input ended or the connection failed.
abbrev pub EndBy : Result Served BrokerFault → List Answer → Type 0
EndBy (Ok End) xs = EndsWith MetEnd xs
EndBy (Ok HungUp) xs = AreGood xs
EndBy (Err (Frame fault)) xs = AreGood xs
EndBy (Err Io) xs = EndsWith HasFailed xs
EndBy (Err OutOfMemory) xs = AreGood xs
EndBy (Err TooLong) xs = AreGood xs

-- What came of the bytes that were read, by at most so many reads of at most so many bytes: by all of them, where there
-- were too many.
pub record IsServedAs {C : Type 0} (answers : Told C) (node : ℕ) (plan : Plan) (before : Broker) (old : C) (result : Result Served BrokerFault) (new : C) (after : Broker) : Type 0 where
  pub xs : List Answer
  pub told : answers old xs new
  pub end : EndBy result xs
  pub served : ServesAs node plan before (came xs) result (gone xs) after
  pub in_time : reads xs ≤ READ_LIMIT
  pub too_long : result ≡ Err TooLong → reads xs ≡ READ_LIMIT
  pub pieces : length (came xs) ≤ READ_LIMIT * PIECE_LIMIT

-- the same by node 0
abbrev pub IsServed : {C : Type 0} → Told C → Plan → Broker → C → Result Served BrokerFault → C → Broker → Type 0
IsServed answers plan before old result new after = IsServedAs answers 0 plan before old result new after
