-- What a pending turn waits for.
use Rattle.std.specs.Prelude.{◌≡◌, ◌⊎◌, ◌≤◌, ◌+◌, ◌*◌, ℕ, [], ◌∷◌, Option, IfSome}
use Rattle.std.specs.Time.{instant_nanos}
use Rattle.std.specs.declared.time.Instant.{Instant}
use Rattle.futures.specs.Task.{Covers}
use Rattle.futures.specs.declared.task.context.Context.{Context}
use Rattle.kp_connection.specs.Answers.Answer.{Read_waits}
use Rattle.kp_connection.specs.Wire.{Told}
use Rattle.kp_drive.specs.declared.link.Link.{Link}
use Rattle.kp_drive.specs.declared.link.Link.TheVariants.{Closed, Dialing, Open}
use Rattle.kp_drive.specs.declared.pipe.Pipe.{Pipe}
use Rattle.kp_cluster.specs.Actions.{next_due}
use Rattle.kp_embed.specs.Due.{NotLater, due_of, following, no_sooner}
use Rattle.kp_embed.specs.Producer.{Producer}
use Rattle.tokio.specs.Timers.{sleep_deadline}
use Rattle.tokio.specs.declared.time.sleep.Sleep.{Sleep}

-- A write waited, and behind it there was only a read that waits.
pub record WriteWaits {S : Type 0} (writer : S → ℕ → Type 0) (answers : Told S) (cx : Context) (stream : S) : Type 0 where
  pub before : S
  pub covers : Covers cx (writer before)
  pub read : answers before (Read_waits ∷ []) stream

-- The poll has registered to read, and where there is something to be written, to write.
pub record PipeWaits {S : Type 0} (reader writer : S → ℕ → Type 0) (answers : Told S) (cx : Context) (pipe : Pipe S) : Type 0 where
  pub read : Covers cx (reader pipe.stream)
  pub write : (pipe.unwritten ≡ []) ⊎ WriteWaits writer answers cx pipe.stream

-- A closed link waits for nothing, one that is being made for what makes it.
abbrev pub LinkWaits : {K S : Type 0} → (waits : K → ℕ → Type 0) (reader writer : S → ℕ → Type 0) → Told S → Context → Link K S → Type 0
LinkWaits waits reader writer answers cx Closed = Unit {0}
LinkWaits waits reader writer answers cx (Dialing k) = Covers cx (waits k)
LinkWaits waits reader writer answers cx (Open pipe) = PipeWaits reader writer answers cx pipe

-- ---- time

-- It is what the producer tells of this moment as its next one.
pub record IsDue (now : ℕ) (p : Producer) (due : Option ℕ) : Type 0 where
  pub ready : IfSome p.core (λ s. due ≡ due_of now s p.cluster)
  pub cluster : NotLater (no_sooner (following now) (next_due p.cluster)) due

-- The timer fires at that moment of the clock that began at the start, or before.
pub record SleepsUntilDue (start : Instant) (now : ℕ) (p : Producer) (timer : Sleep) : Type 0 where
  pub due : Option ℕ
  pub is : IsDue now p due
  pub no_later : IfSome due (λ at. instant_nanos (sleep_deadline timer) ≤ instant_nanos start + at * 1_000_000)
