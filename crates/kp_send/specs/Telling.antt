-- What is told of lines.
use Rattle.std.specs.Prelude.{ℕ, ◌+◌, ◌-◌, ◌^◌, min, nat_lt, List, [], Option, Some, None, Bool, false, if◌then◌else◌}
use Rattle.kp_rules.specs.declared.outcome.Outcome.TheVariants.{Delivered, DeliveredNoOffset, Unknown, Rejected, Unsent}
use Rattle.kp_text.specs.Ends.{is_delivered}
use Rattle.kp_send.specs.declared.telling.Keep.{Keep}
use Rattle.kp_send.specs.declared.telling.Keep.TheVariants as keep
use Rattle.kp_send.specs.declared.telling.Tellings.{Tellings}
use Rattle.kp_send.specs.declared.telling.TheConstants.{SAID_LIMIT}
use Rattle.kp_send.specs.declared.told.Fate.{Fate}
use Rattle.kp_send.specs.declared.told.Fate.TheVariants.{Reported, Refused}
use Rattle.kp_send.specs.declared.told.Told.{Told}
use Rattle.kp_send.specs.Words.{delivered_line, left_out_line, undelivered_line}

-- which file keeps the bytes of a line with which it ended so
abbrev pub keep_of : Fate → Option Keep
keep_of (Reported partition (Delivered offset)) = None
keep_of (Reported partition DeliveredNoOffset) = None
keep_of (Reported partition Unknown) = Some keep.Unknown
keep_of (Reported partition (Rejected code)) = Some keep.Undelivered
keep_of (Reported partition (Unsent reason)) = Some keep.Undelivered
keep_of (Refused fault) = Some keep.Undelivered

abbrev pub was_delivered : Fate → Bool
was_delivered (Reported partition outcome) = is_delivered outcome
was_delivered (Refused fault) = false

-- one more, of a count that stops at the greatest u64
abbrev pub one_more : ℕ → ℕ
one_more n = min (n + 1) (2 ^ 64 - 1)

-- one line more
abbrev pub counted : Tellings → Fate → Tellings
counted t fate =
    if was_delivered fate then record t { delivered = one_more t.delivered } else record t { undelivered = one_more t.undelivered }

-- where a line stands that was delivered
abbrev pub place_text : ℕ → Fate → List ℕ
place_text line (Reported partition (Delivered offset)) = delivered_line line partition (Some offset)
place_text line (Reported partition DeliveredNoOffset) = delivered_line line partition None
place_text line (Reported partition Unknown) = []
place_text line (Reported partition (Rejected code)) = []
place_text line (Reported partition (Unsent reason)) = []
place_text line (Refused fault) = []

abbrev pub out_text : Told → List ℕ
out_text told = place_text told.line told.fate

-- why a line was not delivered, of the first ones
abbrev pub said_text : Tellings → Told → List ℕ
said_text t told =
    if was_delivered told.fate then [] else (if nat_lt t.undelivered SAID_LIMIT then undelivered_line told.line told.fate else [])

-- of how many of them it was not said
abbrev pub end_text : Tellings → List ℕ
end_text t = if nat_lt SAID_LIMIT t.undelivered then left_out_line (t.undelivered - SAID_LIMIT) else []

abbrev pub status_of : Tellings → ℕ
status_of t = if nat_lt 0 t.undelivered then 1 else 0
