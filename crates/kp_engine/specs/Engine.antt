-- What contracts see of an engine.
use Rattle.std.specs.Prelude.{◌≡◌, ℕ, true, false, not, Bool, List, [], ◌∷◌, length, replicate, Option, Some, None, option_map, if◌then◌else◌}
use Rattle.std.specs.Str.{IsUtf8}
use Rattle.futures.specs.declared.task.Poll.{Poll}
use Rattle.futures.specs.declared.task.Poll.TheVariants.{Ready, Pending}
use Rattle.kp_connection.specs.Wire.{Told, Wired}
use Rattle.kp_frames.specs.Stream.{is_faulty}
use Rattle.kp_lanes.specs.declared.intake.Intake.{Intake}
use Rattle.kp_rules.specs.Records.{Core}
use Rattle.kp_engine.specs.Exchange.{notes_in}
use Rattle.kp_engine.specs.Polls.{GoesOnBehind, IsUndone, Turns}
use Rattle.kp_engine.specs.declared.engine.Line.{Line}
use Rattle.kp_engine.specs.declared.engine.Line.TheVariants.{Open, Stopped}
use Rattle.kp_engine.specs.declared.exchange.Exchange.{Exchange}
use Rattle.kp_engine.specs.declared.stop.Cause.{Cause}
use Rattle.kp_engine.specs.declared.stop.Stop.{Stop}
use Rattle.kp_engine.specs.declared.stop.Stop.TheVariants.{NeedStream}

-- a stream on which nothing was written or read
abbrev pub fresh_wire : {S : Type 0} → S → Wired S
fresh_wire stream = record { stream = stream; kept = []; held = [] }

-- what the connection was given up for, if it was
abbrev pub stop_in : {S : Type 0} → Line S → Option Stop
stop_in (Open wire) = None
stop_in (Stopped stop) = Some stop

abbrev pub IfOpen : {S : Type 0} → Line S → (Wired S → Type 0) → Type 0
IfOpen (Open wire) P = P wire
IfOpen (Stopped stop) P = Unit {0}

-- no bytes are held in which the size of no frame was read
abbrev pub is_sound : {S : Type 0} → Line S → Bool
is_sound (Open wire) = not (is_faulty wire.held)
is_sound (Stopped stop) = true

-- The last poll gave NeedStream, and no stream was given since.
abbrev pub NeedsStream : {S : Type 0} → Line S → Type 0
NeedsStream line = (cause : Cause) × (line ≡ Stopped (NeedStream cause))

-- ---- a new one

-- Nothing was taken, held or called, and the calls are kept where that is asked for. The core's names are texts.
pub record IsNew (given : Core) (lanes : Intake) (keeps : Bool) (x : Exchange) : Type 0 where
  pub core : x.core ≡ given
  pub topic : IsUtf8 given.names.topic
  pub client : IsUtf8 given.names.client
  pub intake : x.intake ≡ lanes
  pub items : x.items.items ≡ replicate (length given.reports) None
  pub reports : x.reports.items ≡ replicate (length given.reports) None
  pub closed : x.closed ≡ false
  pub kept : notes_in x ≡ record { strays = 0; calls = if keeps then Some [] else None }

-- ---- a poll

-- The same, of which no calls are kept yet.
pub record Cleared (old new : Exchange) : Type 0 where
  pub core : new.core ≡ old.core
  pub intake : new.intake ≡ old.intake
  pub items : new.items.items ≡ old.items.items
  pub reports : new.reports.items ≡ old.reports.items
  pub closed : new.closed ≡ old.closed
  pub kept : notes_in new ≡ record (notes_in old) { calls = option_map (λ _. []) (notes_in old).calls }

-- the connection after a poll that left it so
abbrev pub line_after : {S : Type 0} → Poll Stop → Wired S → Line S
line_after Pending wire = Open wire
line_after (Ready stop) wire = Stopped stop

-- One turn was made, for a node, over this connection. The engine is done where nothing is left to do.
pub record MakesTurn {S : Type 0} (answers : Told S) (old : Exchange) (wire : Wired S) (result : Poll Stop) (new : Exchange) (left : Line S) : Type 0 where
  pub node : ℕ
  pub now : ℕ
  pub begun : Exchange
  pub cleared : Cleared old begun
  pub after : Wired S
  pub turns : Turns answers node now begun wire result new after
  pub undone : GoesOnBehind result → IsUndone begun new
  pub line : left ≡ line_after result after

-- Where the connection was given up, no turn is made, and the same is answered.
abbrev pub Polls : {S : Type 0} → Told S → Line S → Exchange → Poll Stop → Exchange → Line S → Type 0
Polls answers (Open wire) old result new line = MakesTurn answers old wire result new line
Polls answers (Stopped stop) old result new line = Cleared old new × (result ≡ Ready stop) × (line ≡ Stopped stop)

-- If it makes a turn, then for this node.
abbrev pub IsFor : {S : Type 0} (answers : Told S) (node : ℕ) (line : Line S) (old : Exchange) (result : Poll Stop) (new : Exchange) (left : Line S)
    → Polls answers line old result new left → Type 0
IsFor answers node (Open wire) old result new left poll = poll.node ≡ node
IsFor answers node (Stopped stop) old result new left poll = Unit {0}

-- the moment of a poll's turn, if it makes one
abbrev pub moments_in : {S : Type 0} (answers : Told S) (line : Line S) (old : Exchange) (result : Poll Stop) (new : Exchange) (left : Line S)
    → Polls answers line old result new left → List ℕ
moments_in answers (Open wire) old result new left poll = poll.now ∷ []
moments_in answers (Stopped stop) old result new left poll = []
