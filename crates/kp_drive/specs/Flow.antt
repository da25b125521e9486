-- What came of a stretch of work over a connection.
use Rattle.kp_drive.specs.declared.flow.Flow.{Flow}
use Rattle.kp_drive.specs.declared.flow.Flow.TheVariants.{Idle, Moved, Ended}

-- the one where the connection goes on, the other where it ended
abbrev pub ByFlow : Flow → Type 0 → Type 0 → Type 0
ByFlow Idle GoesOn Ends = GoesOn
ByFlow Moved GoesOn Ends = GoesOn
ByFlow Ended GoesOn Ends = Ends

-- the same, but something has moved
abbrev pub moved : Flow → Flow
moved Idle = Moved
moved Moved = Moved
moved Ended = Ended
