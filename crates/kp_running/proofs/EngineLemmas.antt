-- What a pending poll of the engine waits for.
use Rattle.std.proofs.Common.{◌≡◌, ℕ}
use Rattle.futures.specs.Poll.{OnPending}
use Rattle.futures.specs.Task.{Covers, Hears}
use Rattle.futures.specs.declared.task.Poll.{Poll}
use Rattle.futures.specs.declared.task.Poll.TheVariants.{Ready, Pending}
use Rattle.futures.specs.declared.task.context.Context.{Context}
use Rattle.kp_connection.specs.Wire.{Told}
use Rattle.kp_engine.specs.Engine.{IfOpen, Polls}
use Rattle.kp_engine.specs.declared.engine.Line.{Line}
use Rattle.kp_engine.specs.declared.engine.Line.TheVariants.{Open, Stopped}
use Rattle.kp_engine.specs.declared.exchange.Exchange.{Exchange}
use Rattle.kp_engine.specs.declared.stop.Stop.{Stop}
use Rattle.kp_running.specs.Engines.{read_by}

module _ {S : Type 0} (answers : Told S) (reader : S → ℕ → Type 0) (cx : Context) where
  -- It leaves the connection open, and waits for its stream.
  pub waits_at : (old new : Line S) (x y : Exchange) (polled : Poll Stop) → Polls answers old x polled y new
      → OnPending polled (IfOpen new (λ wire. Covers cx (reader wire.stream))) → OnPending polled ((s : ℕ) → read_by reader new s → Hears cx s)
  waits_at old new x y (Ready stop) polls covers = tt
  waits_at old (Open wire) x y Pending polls covers = covers.1
  waits_at (Open wire) (Stopped stop) x y Pending polls covers = absurd (let e : Stopped stop ≡ Open polls.after = polls.line in cc)
  waits_at (Stopped first) (Stopped stop) x y Pending polls covers = absurd (let e : Pending ≡ Ready first = polls.1 in cc)
