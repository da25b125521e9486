-- What a partition log answers to a batch, and what becomes of the log (KIP-98, "Broker logic").
use Rattle.std.specs.Prelude.{◌≡◌, ◌+◌, ◌≤◌, ◌≤ℤ◌, List, [], ◌∷◌, length, ℤ, pos, Option, Some, None, Result, Ok, Err, Bool, false, ◌&&◌, ◌==◌, not, nat_le, int_lt, int_le, ◌+ℤ◌, find, if◌then◌else◌}
use Rattle.std.specs.Ordering.{int_eq}
use Rattle.kp_batch.specs.declared.batch.Batch.{Batch}
use Rattle.kp_batch.specs.declared.fault.BatchFault.{BatchFault}
use Rattle.kp_log.specs.declared.answer.Answer.{Answer}
use Rattle.kp_log.specs.declared.answer.Answer.TheVariants as answer
use Rattle.kp_log.specs.declared.answer.Refusal.TheVariants.{CorruptMessage, InvalidRequest, InvalidProducerEpoch, DuplicateSequenceNumber, OutOfOrderSequenceNumber}
use Rattle.kp_log.specs.declared.offering.Verdict.{Verdict}
use Rattle.kp_log.specs.declared.offering.Verdict.TheVariants.{Refuse, Repeat, Append}
use Rattle.kp_log.specs.declared.stored.Stored.{Stored}
use Rattle.kp_log.specs.declared.whim.Whim.{Whim}
use Rattle.kp_log.specs.declared.whim.Whim.TheVariants as whim
use Rattle.kp_log.specs.declared.kept.Span.{Span}
use Rattle.kp_log.specs.Answer.{number_of}
use Rattle.kp_log.specs.Log.{Log, count_of, kept_of, appended, SEQUENCE_LIMIT, LENGTH_LIMIT}

-- ---- a repeat

abbrev pub is_repeat : Batch → Span → Bool
is_repeat b s = int_eq b.head.base_sequence s.base_sequence && (length b.records == s.count)

-- the kept batch that this one repeats
abbrev pub repeated : Batch → List Span → Option Span
repeated b spans = find (is_repeat b) spans

-- ---- the next in sequence

abbrev pub is_next : List Stored → Batch → Bool
is_next records b =
    int_eq b.head.base_sequence (pos (count_of b.head.producer_id records))
    && int_le (b.head.base_sequence +ℤ pos (length b.records)) (pos SEQUENCE_LIMIT)
    && nat_le (length records + length b.records) LENGTH_LIMIT

-- ---- older than the kept batches

abbrev pub is_older : Batch → List Span → Bool
is_older b [] = false
is_older b (oldest ∷ later) =
    int_le (pos 0) b.head.base_sequence
    && int_le (b.head.base_sequence +ℤ pos (length b.records)) oldest.base_sequence

-- ---- the verdict

-- on a batch that repeats none of those kept
abbrev pub verdict_new : Log → Batch → Verdict
verdict_new log b =
    if is_next log.records b then Append
    else if is_older b (kept_of b.head.producer_id log).spans then Refuse DuplicateSequenceNumber
    else Refuse OutOfOrderSequenceNumber

abbrev pub verdict_against : Log → Batch → Option Span → Verdict
verdict_against log b (Some s) = Repeat s.base_offset
verdict_against log b None = verdict_new log b

-- what is to be done with a batch
unfoldable pub verdict : Log → Batch → Verdict
verdict log b =
    if int_lt b.head.producer_id (pos 0) then Refuse InvalidRequest
    else if not (int_eq b.head.epoch (pos 0)) then Refuse InvalidProducerEpoch
    else verdict_against log b (repeated b (kept_of b.head.producer_id log).spans)

-- ---- what it comes to

-- an answer, and the log after it
pub record Judgement : Type 0 where
  pub answer : Answer
  pub log : Log

abbrev pub unchanged : Log → Answer → Judgement
unchanged log a = record { answer = a; log = log }

abbrev pub stored : Log → Batch → Judgement
stored log b = record { answer = answer.Stored (pos (length log.records)); log = appended log b }

abbrev pub done : Log → Batch → Verdict → Judgement
done log b (Refuse refusal) = unchanged log (answer.Refused refusal)
done log b (Repeat offset) = unchanged log (answer.Stored offset)
done log b Append = stored log b

abbrev pub judged : Log → Batch → Judgement
judged log b = done log b (verdict log b)

-- what was offered: a batch, or bytes that are none
abbrev pub offered : Log → Result Batch BatchFault → Judgement
offered log (Ok b) = judged log b
offered log (Err fault) = unchanged log (answer.Refused CorruptMessage)

-- Told to refuse, a log looks at nothing; told to answer late, it does with the batch what it would, and then answers so.
abbrev pub offered_then : Log → Whim → Result Batch BatchFault → Judgement
offered_then log (whim.Refuse code) what = unchanged log (answer.Error code)
offered_then log (whim.Late code) what = record { answer = answer.Error code; log = (offered log what).log }

-- the code that it is told to answer
abbrev pub code_told : Whim → ℤ
code_told (whim.Refuse code) = number_of code
code_told (whim.Late code) = number_of code

-- ---- the first batch of a producer

pub record IsFirst (b : Batch) : Type 0 where
  pub known : pos 0 ≤ℤ b.head.producer_id
  pub first_epoch : b.head.epoch ≡ pos 0
  pub from_zero : b.head.base_sequence ≡ pos 0
  pub in_sequence : length b.records ≤ SEQUENCE_LIMIT
