-- What is said of a line.
use Rattle.std.specs.Prelude.{ℕ, ℤ, List, ◌++◌, Option, Some, None, codes, decimal}
use Rattle.std.specs.Fmt.{signed_decimal}
use Rattle.kp_embed.specs.declared.fault.SendFault.{SendFault}
use Rattle.kp_embed.specs.declared.fault.SendFault.TheVariants.{Closed, NotReady, NoPartition, TooLarge, BufferFull, Spent, OutOfMemory}
use Rattle.kp_rules.specs.declared.outcome.Outcome.{Outcome}
use Rattle.kp_rules.specs.declared.outcome.Outcome.TheVariants.{Delivered, DeliveredNoOffset, Unknown, Rejected, Unsent}
use Rattle.kp_rules.specs.declared.outcome.Reason.{Reason}
use Rattle.kp_rules.specs.declared.outcome.Reason.TheVariants.{Expired, Fenced, Ended}
use Rattle.kp_text.specs.Lines.{newline}
use Rattle.kp_send.specs.declared.told.Fate.{Fate}
use Rattle.kp_send.specs.declared.told.Fate.TheVariants.{Reported, Refused}

-- why a record that was accepted was never sent, and what to do
abbrev pub reason_words : Reason → List ℕ
reason_words Expired = codes "not sent: the delivery timeout passed; it can be sent again"
reason_words Fenced = codes "not sent: an earlier record of its partition was rejected or is unknown; look at that one, and then it can be sent again"
reason_words Ended = codes "not sent: the producer was ended; it can be sent again"

-- why a record was never accepted, and what to do
abbrev pub fault_words : SendFault → List ℕ
fault_words Closed = codes "not sent: the producer was closed; it can be sent again"
fault_words NotReady = codes "not sent: no broker was ready; it can be sent again"
fault_words NoPartition = codes "not sent: the topic has no such partition; name another one"
fault_words TooLarge = codes "not sent: its record is too large; raise max.request.size or buffer.memory, or make it smaller"
fault_words BufferFull = codes "not sent: the buffer was full; it can be sent again"
fault_words Spent = codes "not sent: every correlation id or number was used; it can be sent by another producer"
fault_words OutOfMemory = codes "not sent: out of memory; it can be sent again"

-- what became of a record that was accepted, and what to do
abbrev pub outcome_words : Outcome → List ℕ
outcome_words (Delivered offset) = codes "delivered"
outcome_words DeliveredNoOffset = codes "delivered"
outcome_words Unknown = codes "sent, and no answer came: it may stand in the log or not; look there before it is sent again"
outcome_words (Rejected code) = codes "rejected by the broker; look at its error code, " ++ signed_decimal code
outcome_words (Unsent reason) = reason_words reason

abbrev pub fate_words : Fate → List ℕ
fate_words (Reported partition outcome) = outcome_words outcome
fate_words (Refused fault) = fault_words fault

-- ---- lines

-- a line that was not delivered, and why
abbrev pub undelivered_line : ℕ → Fate → List ℕ
undelivered_line line fate = codes "line " ++ decimal line ++ codes ": " ++ fate_words fate ++ newline

-- the offset of a line that was delivered, where it is known
abbrev pub offset_text : Option ℤ → List ℕ
offset_text (Some offset) = codes " " ++ signed_decimal offset
offset_text None = codes " -"

-- a line that was delivered, and where
abbrev pub delivered_line : ℕ → (partition : ℕ) → Option ℤ → List ℕ
delivered_line line partition offset = decimal line ++ codes " " ++ decimal partition ++ offset_text offset ++ newline

-- how many more were not delivered than were said
abbrev pub left_out_line : ℕ → List ℕ
left_out_line count = codes "more lines that were not delivered: " ++ decimal count ++ newline
