-- What contracts see of bells.
use Rattle.std.specs.Prelude.{ℕ, List}
use Rattle.tokio.specs.Locks.{told_source}
use Rattle.kp_running.specs.declared.bell.Bell.{Bell}
use Rattle.kp_running.specs.declared.bell.SenderBell.{SenderBell}
use Rattle.kp_running.specs.declared.bells.Bells.{Bells}

-- the source that fires for who waits for the bell
abbrev pub bell_source : Bell → ℕ
bell_source bell = told_source bell.notify

abbrev pub engine_bell : Bells → Bell
engine_bell bells = bells.engine

-- the senders' bells, each at its sender's place
abbrev pub sender_bells : Bells → List SenderBell
sender_bells bells = bells.senders.items
