-- Answers as Kafka's numbers.
use Rattle.std.specs.Prelude.{ℤ, pos, negsuc}
use Rattle.kp_log.specs.declared.answer.Answer.{Answer}
use Rattle.kp_log.specs.declared.answer.Answer.TheVariants.{Stored, Refused, Error}
use Rattle.kp_log.specs.declared.answer.Refusal.{Refusal}
use Rattle.kp_log.specs.declared.error_code.ErrorCode.{ErrorCode}
use Rattle.kp_log.specs.declared.answer.Refusal.TheVariants.{CorruptMessage, InvalidRequest, OutOfOrderSequenceNumber, DuplicateSequenceNumber, InvalidProducerEpoch}

abbrev pub number_of : ErrorCode → ℤ
number_of code = code.number

abbrev pub refusal_code : Refusal → ℤ
refusal_code CorruptMessage = pos 2
refusal_code InvalidRequest = pos 42
refusal_code OutOfOrderSequenceNumber = pos 45
refusal_code DuplicateSequenceNumber = pos 46
refusal_code InvalidProducerEpoch = pos 47

abbrev pub code_of : Answer → ℤ
code_of (Stored offset) = pos 0
code_of (Refused refusal) = refusal_code refusal
code_of (Error code) = number_of code

-- no offset goes with an error
abbrev pub base_offset_of : Answer → ℤ
base_offset_of (Stored offset) = offset
base_offset_of (Refused refusal) = negsuc 0
base_offset_of (Error code) = negsuc 0
