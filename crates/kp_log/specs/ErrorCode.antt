-- The error codes that say nothing of a batch (Kafka's protocol guide, "Error Codes").
use Rattle.std.specs.Prelude.{◌≢◌, ℤ, pos}

-- the codes that do
abbrev pub NO_ERROR : ℤ
NO_ERROR = pos 0

abbrev pub DUPLICATE_SEQUENCE_NUMBER : ℤ
DUPLICATE_SEQUENCE_NUMBER = pos 46

-- Any other number is an error code that does not.
pub record IsErrorCode (number : ℤ) : Type 0 where
  pub error : number ≢ NO_ERROR
  pub no_duplicate : number ≢ DUPLICATE_SEQUENCE_NUMBER
