-- What a node of a broker gives for a content, and what is kept of a request that it gives no answer.
use Rattle.std.specs.Prelude.{◌≡◌, ◌⊎◌, ℕ, ◌≤◌, ◌<◌, List, ◌++◌, length, Option, None, Result, Ok, Err, IsOk}
use Rattle.kp_frames.specs.declared.fault.FrameFault.{FrameFault}
use Rattle.kp_frames.specs.declared.fault.FrameFault.TheVariants.{TooLarge}
use Rattle.kp_frames.specs.declared.frame.TheConstants.{CONTENT_LIMIT}
use Rattle.kp_frames.specs.declared.produce.ProduceRequest.{ProduceRequest}
use Rattle.kp_frames.specs.declared.request.Request.{Request}
use Rattle.kp_frames.specs.declared.request.RequestBody.{RequestBody}
use Rattle.kp_frames.specs.declared.request.RequestBody.TheVariants.{Produce, Metadata, InitProducerId}
use Rattle.kp_frames.specs.declared.response.Response.{Response}
use Rattle.kp_frames.specs.Request.{announced, request_at}
use Rattle.kp_frames.specs.Response.{FitsResponse, spelling}
use Rattle.kp_frames.specs.Stream.{frame}
use Rattle.kp_log.specs.declared.whim.Whim.{Whim}
use Rattle.kp_broker.specs.declared.fault.BrokerFault.{BrokerFault}
use Rattle.kp_broker.specs.declared.fault.BrokerFault.TheVariants.{Frame, OutOfMemory}
use Rattle.kp_broker.specs.Answers.{Part, parts_of, after_parts, answer_to, after_answer}
use Rattle.kp_broker.specs.Broker.{Broker, counted}

-- ---- a response as a frame

pub record IsFrameOf (response : Response) (bytes : List ℕ) : Type 0 where
  pub fits : FitsResponse response
  pub size : length (spelling response) ≤ CONTENT_LIMIT
  pub spelled : bytes ≡ frame.spell (spelling response)

pub record IsTooLarge (response : Response) : Type 0 where
  pub fits : FitsResponse response
  pub size : CONTENT_LIMIT < length (spelling response)

-- What a writer gave, seen by view: the frame, or why there is none.
abbrev pub Frames : {X : Type 0} → (X → List ℕ) → Response → Result X BrokerFault → Type 0
Frames view response (Ok x) = IsFrameOf response (view x)
Frames view response (Err (Frame TooLarge)) = IsTooLarge response
Frames view response (Err OutOfMemory) = Unit {0}
Frames view response (Err fault) = ⊥

-- ---- a request without an answer

-- Some of the parts were taken, from the front on, and none behind them.
pub record TakesSome (whim : Option Whim) (node : ℕ) (r : ProduceRequest) (before : Broker) (parts : List Part) (after : Broker) : Type 0 where
  pub taken : List Part
  pub left : List Part
  pub split : parts ≡ taken ++ left
  pub leaves : after ≡ after_parts whim node r before taken

-- What was taken stays, and an id that was not told is not spent.
abbrev pub StopsWithin : Option Whim → ℕ → Broker → RequestBody → Broker → Type 0
StopsWithin whim node before (Produce r) after = TakesSome whim node r before (parts_of r) after
StopsWithin whim node before (Metadata r) after = after ≡ before
StopsWithin whim node before (InitProducerId r) after = after ≡ before

-- the broker once each part was taken
abbrev pub after_unanswered : Option Whim → ℕ → Broker → RequestBody → Broker
after_unanswered whim node before (Produce r) = after_parts whim node r before (parts_of r)
after_unanswered whim node before (Metadata r) = before
after_unanswered whim node before (InitProducerId r) = before

-- ---- what was given, seen by view, for a request and a content

abbrev pub Responds : {X : Type 0} → (X → List ℕ) → Option Whim → ℕ → Broker → Request → Result X BrokerFault → Broker → Type 0
Responds view whim node before request (Ok x) after =
    IsFrameOf (answer_to whim node before request) (view x) × (after ≡ after_answer whim node before request.body)
Responds view whim node before request (Err (Frame TooLarge)) after =
    IsTooLarge (answer_to whim node before request) × (after ≡ after_unanswered whim node before request.body)
Responds view whim node before request (Err OutOfMemory) after = StopsWithin whim node before request.body after
Responds view whim node before request (Err fault) after = ⊥

-- Memory was refused while the content was read.
pub record NotRead {X : Type 0} (content : List ℕ) (before : Broker) (result : Result X BrokerFault) (after : Broker) : Type 0 where
  pub begun : IsOk (announced content)
  pub refused : result ≡ Err OutOfMemory
  pub unchanged : after ≡ before

-- by what the content is read as
abbrev pub AnswersRead : {X : Type 0} → (X → List ℕ) → ℕ → Broker → Result Request FrameFault → Result X BrokerFault → Broker → Type 0
AnswersRead view node before (Ok request) result after =
    Responds view None node (counted request.body before) request result after
AnswersRead view node before (Err fault) result after = (result ≡ Err (Frame fault)) × (after ≡ before)

abbrev pub AnswersAs : {X : Type 0} → (X → List ℕ) → ℕ → List ℕ → Broker → Result X BrokerFault → Broker → Type 0
AnswersAs view node content before result after =
    NotRead content before result after ⊎ AnswersRead view node before (request_at content) result after

-- the same by node 0
abbrev pub Answers : {X : Type 0} → (X → List ℕ) → List ℕ → Broker → Result X BrokerFault → Broker → Type 0
Answers view content before result after = AnswersAs view 0 content before result after
