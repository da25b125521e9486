-- What the sequence rule finds of a batch, apart from where it looks: in a log or in a history.
use Rattle.std.proofs.Common.{◌≡◌, Bool, true, false, List, Option, Some, None, refl}
use Rattle.kp_batch.specs.declared.batch.Batch.{Batch}
use Rattle.kp_log.specs.declared.answer.Refusal.TheVariants.{DuplicateSequenceNumber, OutOfOrderSequenceNumber}
use Rattle.kp_log.specs.declared.kept.Span.{Span}
use Rattle.kp_log.specs.declared.offering.Verdict.{Verdict}
use Rattle.kp_log.specs.declared.offering.Verdict.TheVariants.{Refuse, Repeat, Append}
use Rattle.kp_log.specs.declared.stored.Stored.{Stored}
use Rattle.kp_log.specs.Log.{Log}
use Rattle.kp_log.specs.SequenceRule.{Judgement, repeated, is_next, is_older, done}

-- what is found, given the records and the batches that are kept of the batch's producer
pub data Ruling (records : List Stored) (spans : List Span) (b : Batch) : Type 0 where
  Repeats : (s : Span) → repeated b spans ≡ Some s → Ruling records spans b
  GoesOn : repeated b spans ≡ None → is_next records b ≡ true → Ruling records spans b
  IsOlder : repeated b spans ≡ None → is_next records b ≡ false → is_older b spans ≡ true → Ruling records spans b
  LeavesGap : repeated b spans ≡ None → is_next records b ≡ false → is_older b spans ≡ false → Ruling records spans b

ruling_new : (records : List Stored) (spans : List Span) (b : Batch) (next older : Bool) → repeated b spans ≡ None
    → is_next records b ≡ next → is_older b spans ≡ older → Ruling records spans b
ruling_new records spans b true older fresh is old = GoesOn fresh is
ruling_new records spans b false true fresh is old = IsOlder fresh is old
ruling_new records spans b false false fresh is old = LeavesGap fresh is old

ruling_at : (records : List Stored) (spans : List Span) (b : Batch) (found : Option Span) → repeated b spans ≡ found → Ruling records spans b
ruling_at records spans b (Some s) is = Repeats s is
ruling_at records spans b None is = ruling_new records spans b (is_next records b) (is_older b spans) is refl refl

pub ruling : (records : List Stored) (spans : List Span) (b : Batch) → Ruling records spans b
ruling records spans b = ruling_at records spans b (repeated b spans) refl

-- the verdict then
abbrev pub verdict_of : {records : List Stored} {spans : List Span} {b : Batch} → Ruling records spans b → Verdict
verdict_of (Repeats s is) = Repeat s.base_offset
verdict_of (GoesOn fresh is) = Append
verdict_of (IsOlder fresh is old) = Refuse DuplicateSequenceNumber
verdict_of (LeavesGap fresh is old) = Refuse OutOfOrderSequenceNumber

-- the step that a log then makes
abbrev pub step_of : {records : List Stored} {spans : List Span} {b : Batch} → Log → Batch → Ruling records spans b → Judgement
step_of log arriving r = done log arriving (verdict_of r)
