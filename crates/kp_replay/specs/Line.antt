-- The lines that a world keeps, as the definitions have them.
use Rattle.std.specs.Prelude.{List, [], ◌∷◌, map, Option, Some, None}
use Rattle.kp_world.specs.Line as line
use Rattle.kp_replay.specs.declared.line.AnswerPart.{AnswerPart}
use Rattle.kp_replay.specs.declared.line.Line.{Line}
use Rattle.kp_replay.specs.declared.line.Line.TheVariants.{Closed, Large, Empty, Full, Reconnect, SentBatches, SentInit, Idle, Ended, AnswerBatches, AnswerInit, Stale, Flushing, Flushed}
use Rattle.kp_replay.specs.declared.line.SentPart.{SentPart}

abbrev pub sent_part : SentPart → line.SentPart
sent_part x = record { partition = x.partition; sequence = x.sequence; count = x.count }

abbrev pub answer_part : AnswerPart → line.AnswerPart
answer_part x = record { partition = x.partition; code = x.code; base = x.base }

abbrev pub line_of : Line → line.Line
line_of (Closed s p) = line.Closed s p
line_of (Large s p) = line.Large s p
line_of (Empty s) = line.Empty s
line_of (Full s) = line.Full s
line_of Reconnect = line.Reconnect
line_of (SentBatches k parts) = line.SentBatches k (map sent_part parts)
line_of (SentInit k) = line.SentInit k
line_of Idle = line.Idle
line_of Ended = line.Ended
line_of (AnswerBatches j parts) = line.AnswerBatches j (map answer_part parts)
line_of (AnswerInit j code id) = line.AnswerInit j code id
line_of (Stale j) = line.Stale j
line_of Flushing = line.Flushing
line_of Flushed = line.Flushed

abbrev pub lines_of : Option Line → List line.Line
lines_of None = []
lines_of (Some l) = line_of l ∷ []
