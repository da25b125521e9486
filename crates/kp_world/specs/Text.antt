-- A world's lines as text.
use Rattle.std.specs.Prelude.{ℕ, List, [], ◌∷◌, ◌++◌, flat_map, codes, decimal}
use Rattle.std.specs.Fmt.{signed_decimal}
use Rattle.kp_wire.specs.Printed.{printed}
use Rattle.kp_rules.specs.declared.outcome.Outcome.{Outcome}
use Rattle.kp_rules.specs.declared.outcome.Outcome.TheVariants.{Delivered, DeliveredNoOffset, Unknown, Rejected, Unsent}
use Rattle.kp_rules.specs.declared.outcome.Reason.TheVariants.{Expired, Fenced, Ended}
use Rattle.kp_world.specs.Line.{Line, SentPart, AnswerPart}
use Rattle.kp_world.specs.Line as line
use Rattle.kp_world.specs.Lines.{lines}
use Rattle.kp_world.specs.World.{World}

abbrev pub Text : Type 0
Text = List ℕ

-- ---- words: each has a blank before it

abbrev pub number : ℕ → Text
number n = codes " " ++ decimal n

abbrev pub sent_part_text : SentPart → Text
sent_part_text x =
    number x.partition ++ codes ":" ++ decimal x.sequence ++ codes "+" ++ decimal x.count

abbrev pub answer_part_text : AnswerPart → Text
answer_part_text x =
    number x.partition ++ codes ":" ++ signed_decimal x.code ++ codes "@" ++ signed_decimal x.base

abbrev pub outcome_text : Outcome → Text
outcome_text (Delivered offset) = codes " delivered " ++ signed_decimal offset
outcome_text DeliveredNoOffset = codes " delivered"
outcome_text Unknown = codes " unknown"
outcome_text (Rejected code) = codes " rejected " ++ signed_decimal code
outcome_text (Unsent Expired) = codes " expired"
outcome_text (Unsent Fenced) = codes " fenced"
outcome_text (Unsent Ended) = codes " ended"

-- ---- lines

unfoldable pub line_text : Line → Text
line_text (line.Closed s p) = codes "closed" ++ number s ++ number p
line_text (line.Large s p) = codes "large" ++ number s ++ number p
line_text (line.Empty s) = codes "empty" ++ number s
line_text (line.Full s) = codes "full" ++ number s
line_text line.Reconnect = codes "reconnect"
line_text (line.SentBatches k parts) = codes "sent" ++ number k ++ flat_map sent_part_text parts
line_text (line.SentInit k) = codes "sent" ++ number k ++ codes " init"
line_text line.Idle = codes "idle"
line_text line.Ended = codes "ended"
line_text (line.AnswerBatches j parts) =
    codes "answer" ++ number j ++ flat_map answer_part_text parts
line_text (line.AnswerInit j code id) =
    codes "answer" ++ number j ++ codes " init "
    ++ signed_decimal code ++ codes "@" ++ signed_decimal id
line_text (line.Stale j) = codes "stale" ++ number j
line_text line.Flushing = codes "flushing"
line_text line.Flushed = codes "flushed"
line_text (line.Reported r) =
    codes "report" ++ number r.sender ++ number r.partition ++ number r.number
    ++ outcome_text r.outcome
line_text (line.Logged p offset value) =
    codes "log" ++ number p ++ number offset ++ codes " " ++ printed value
line_text (line.LoggedOther p offset) = codes "other" ++ number p ++ number offset
line_text (line.Audited p r) =
    codes "audit" ++ number p ++ number r.sender ++ number r.first ++ number r.count

-- each line, and the byte that ends it
unfoldable pub text : World → Text
text w = flat_map (λ l. line_text l ++ 10 ∷ []) (lines w)
