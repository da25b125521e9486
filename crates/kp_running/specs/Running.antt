-- Any number of polls.
use Rattle.std.specs.Prelude.{List, [], ◌∷◌, Option}
use Rattle.futures.specs.declared.task.Poll.{Poll}
use Rattle.futures.specs.declared.task.Poll.TheVariants.{Ready, Pending}
use Rattle.kp_running.specs.declared.running.Running.{Running}

-- Polls one after the other, through these states: all but the last were pending.
abbrev pub GoesThrough : {E P : Type 0} → (E → Poll P → E → Type 0) → E → List E → P → E → Type 0
GoesThrough polls old [] stop new = polls old (Ready stop) new
GoesThrough polls old (next ∷ rest) stop new = polls old Pending next × GoesThrough polls next rest stop new

-- The one was polled on to the other, and the last poll gave this stop.
pub record Reaches {E P : Type 0} (polls : E → Poll P → E → Type 0) (old : E) (stop : P) (new : E) : Type 0 where
  pub between : List E
  pub goes : GoesThrough polls old between stop new

-- the engine that is owned, unless it was given back
abbrev pub engine_in : {R E : Type 0} → Running R E → Option E
engine_in running = running.engine
