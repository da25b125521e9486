-- What one step of a handshake leaves.
use Rattle.std.specs.Prelude.{◌≡◌, ◌≤◌, ℕ, List, [], Result, Ok, Err}
use Rattle.futures.specs.declared.task.Poll.{Poll}
use Rattle.futures.specs.declared.task.Poll.TheVariants.{Ready, Pending}
use Rattle.kp_frames.specs.declared.fault.FrameFault.TheVariants.{Short}
use Rattle.kp_frames.specs.Stream.{first}
use Rattle.kp_hello.specs.declared.fault.HandshakeFault.{HandshakeFault}
use Rattle.kp_connection.specs.declared.handshake.stage.Stage.{Stage}
use Rattle.kp_connection.specs.declared.handshake.stage.Stage.TheVariants.{Opening, Metadata, ProducerId}
use Rattle.kp_hello.specs.declared.hello.Hello.{Hello}
use Rattle.kp_connection.specs.Answers.{Answer}
use Rattle.kp_connection.specs.Handshake.{Talking, Comes, Waits, Concludes, EndsWith}
use Rattle.kp_connection.specs.Wire.{Told}

-- ---- between two steps

-- the partitions that were counted are as many as a topic may have
abbrev pub IsCounted : Stage → Type 0
IsCounted Opening = Unit {0}
IsCounted Metadata = Unit {0}
IsCounted (ProducerId n) = (1 ≤ n) × (n ≤ 1024)

-- Less than a frame was read; before the first request nothing waits to be written.
pub record IsSound {S : Type 0} (t : Talking S) : Type 0 where
  pub partial : first t.wire.held ≡ Err Short
  pub opening : t.stage ≡ Opening → t.wire.kept ≡ []
  pub counted : IsCounted t.stage

-- ---- one step

pub record Steps {S : Type 0} (answers : Told S) (old new : Talking S) : Type 0 where
  pub xs : List Answer
  pub names : new.names ≡ old.names
  pub comes : Comes answers old new.stage [] xs new.wire

-- to this stage
pub record StepsTo {S : Type 0} (answers : Told S) (old : Talking S) (stage : Stage) (new : Talking S) : Type 0 where
  pub steps : Steps answers old new
  pub to : new.stage ≡ stage
  pub sound : IsSound new

-- it has begun
abbrev pub Opens : {S : Type 0} → Told S → Talking S → Result (Unit {0}) HandshakeFault → Talking S → Type 0
Opens answers old (Ok done) new = StepsTo answers old Metadata new
Opens answers old (Err fault) new = EndsWith answers old fault

-- it was told how many partitions there are
abbrev pub Learns : {S : Type 0} → Told S → Talking S → Result (Poll ℕ) HandshakeFault → Talking S → Type 0
Learns answers old (Ok Pending) new = Waits answers old new × IsSound new
Learns answers old (Ok (Ready n)) new = StepsTo answers old (ProducerId n) new
Learns answers old (Err fault) new = EndsWith answers old fault

-- it has its hello
abbrev pub Talks : {S : Type 0} → Told S → Talking S → Result (Poll Hello) HandshakeFault → Talking S → Type 0
Talks answers old (Ok Pending) new = Waits answers old new × IsSound new
Talks answers old (Ok (Ready hello)) new = Concludes answers old hello new.wire.stream
Talks answers old (Err fault) new = EndsWith answers old fault
