-- What a node sends back for one frame, as a value.
use Rattle.std.specs.Prelude.{◌≡◌, ◌⊎◌, ℕ, List, Option, None, Result, Ok, Err}
use Rattle.kp_frames.specs.declared.request.Request.{Request}
use Rattle.kp_frames.specs.Request.{request_at}
use Rattle.kp_log.specs.declared.whim.Whim.{Whim}
use Rattle.kp_broker.specs.declared.fault.BrokerFault.{BrokerFault}
use Rattle.kp_broker.specs.declared.fault.BrokerFault.TheVariants as fault
use Rattle.kp_broker.specs.declared.plan.action.Action.{Action}
use Rattle.kp_broker.specs.declared.serving.replying.Reply.{Reply}
use Rattle.kp_broker.specs.declared.serving.replying.Reply.TheVariants.{Frame, Nothing, HangUp}
use Rattle.kp_broker.specs.Answering.{StopsWithin}
use Rattle.kp_broker.specs.Broker.{Broker}
use Rattle.kp_broker.specs.Plan.{Plan}
use Rattle.kp_broker.specs.Serving.{Course, HangsUp, Refuses, silent, ended, answered, done_by, handled, StopsBy, StopsFor}

-- The reply is what comes of a frame; or memory was refused, and then this is so.
abbrev pub Gives : Course → Type 0 → Result Reply BrokerFault → Broker → Type 0
Gives c Stops (Ok (Frame bytes)) after = c ≡ record { written = bytes.items; broker = after; ending = None }
Gives c Stops (Ok Nothing) after = c ≡ silent after
Gives c Stops (Ok HangUp) after = c ≡ ended HangsUp after
Gives c Stops (Err (fault.Frame refused)) after = c ≡ ended (Refuses refused) after
Gives c Stops (Err fault.OutOfMemory) after = Stops
Gives c Stops (Err other) after = ⊥

abbrev pub RepliesOn : Option Whim → ℕ → Request → Broker → Result Reply BrokerFault → Broker → Type 0
RepliesOn whim node request b result after =
    Gives (answered whim node request b) (StopsWithin whim node b request.body after) result after

abbrev pub RepliesBy : Option Action → ℕ → Request → Broker → Result Reply BrokerFault → Broker → Type 0
RepliesBy action node request b result after =
    Gives (done_by action node request b) (StopsBy action node request b after) result after

abbrev pub Replies : ℕ → Plan → List ℕ → Broker → Result Reply BrokerFault → Broker → Type 0
Replies node plan content b result after =
    Gives (handled node plan b content) ((after ≡ b) ⊎ StopsFor node plan b (request_at content) after) result after
