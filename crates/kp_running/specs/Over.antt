-- Why an engine that lasts through outages does not go on.
use Rattle.std.specs.Prelude.{ℕ, ◌≤◌, Option, Some, None}
use Rattle.futures.specs.declared.task.Poll.{Poll}
use Rattle.futures.specs.declared.task.Poll.TheVariants.{Ready, Pending}
use Rattle.kp_engine.specs.declared.stop.Stop.{Stop}
use Rattle.kp_engine.specs.declared.stop.Stop.TheVariants as stop
use Rattle.kp_running.specs.declared.keeping.News.{News}
use Rattle.kp_running.specs.declared.keeping.News.TheVariants.{Connected, Dropped, Ended, Led}
use Rattle.kp_running.specs.declared.over.Over.{Over}
use Rattle.kp_running.specs.declared.over.Over.TheVariants.{Done, GaveUp, Spent, OutOfMemory}

-- what is answered for a turn's answer: where a stream is needed, it is waited for
abbrev pub over_of : Poll Stop → Poll Over
over_of Pending = Pending
over_of (Ready stop.Done) = Ready Done
over_of (Ready (stop.NeedStream cause)) = Pending
over_of (Ready stop.OutOfMemory) = Ready OutOfMemory

-- ---- when it gives up

-- It holds where it gave up.
abbrev pub IfGaveUp : Over → Type 0 → Type 0
IfGaveUp Done P = Unit {0}
IfGaveUp (GaveUp cause) P = P
IfGaveUp Spent P = Unit {0}
IfGaveUp OutOfMemory P = Unit {0}

-- It holds where this poll gave up.
abbrev pub IfGivenUp : Poll Over → Type 0 → Type 0
IfGivenUp Pending P = Unit {0}
IfGivenUp (Ready over) P = IfGaveUp over P

-- It holds where there is to be no connection any more.
abbrev pub IfEnded : {S : Type 0} → Poll (News S) → Type 0 → Type 0
IfEnded Pending P = Unit {0}
IfEnded (Ready (Connected node stream)) P = Unit {0}
IfEnded (Ready (Led partition node)) P = Unit {0}
IfEnded (Ready (Dropped node)) P = Unit {0}
IfEnded (Ready Ended) P = P

-- As many connections were made as may be. Where there is no limit, never.
abbrev pub IsSpent : Option ℕ → ℕ → Type 0
IsSpent None made = ⊥
IsSpent (Some limit) made = limit ≤ made
