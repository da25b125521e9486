-- What a stream over memory tells of its calls.
use Rattle.std.specs.Prelude.{◌≡◌, ℕ, List, [], ◌∷◌, ◌++◌, map}
use Rattle.kp_connection.specs.Answers.{Answer, came, gone}
use Rattle.kp_connection.specs.Answers.Answer.{Came, Read_waits, Read_failed, Went, Write_waits, Write_failed}
use Rattle.kp_connection.specs.declared.script.Step.{Step}
use Rattle.kp_connection.specs.declared.script.TheConstants.{ALL}
use Rattle.kp_connection.specs.declared.script.Met.{Met}
use Rattle.kp_connection.specs.declared.script.Met.TheVariants as is

-- The input that was not read, what was written, what the calls met; the steps of reads and writes from the next on, and
-- how many bytes may still move.
pub record Played : Type 0 where
  pub unread : List ℕ
  pub output : List ℕ
  pub met : List (Met × Unit {0})
  pub reads : List Step
  pub writes : List Step
  pub left : ℕ

-- The first of the steps, which comes again behind the others; where there is none, all is moved.
abbrev pub TakesStep : List Step → Step → List Step → Type 0
TakesStep [] step after = (step ≡ ALL) × (after ≡ [])
TakesStep (next ∷ steps) step after = (step ≡ next) × (after ≡ steps ++ next ∷ [])

-- what a call met that gave this answer
abbrev pub kind : Answer → Met × Unit {0}
kind (Came bytes) = (is.Came, tt)
kind Read_waits = (is.ReadWaits, tt)
kind Read_failed = (is.ReadFailed, tt)
kind (Went bytes) = (is.Went, tt)
kind Write_waits = (is.WriteWaits, tt)
kind Write_failed = (is.WriteFailed, tt)

-- From old to new the calls on the script answered these.
pub record Tells (old : Played) (xs : List Answer) (new : Played) : Type 0 where
  pub given : old.unread ≡ came xs ++ new.unread
  pub taken : new.output ≡ old.output ++ gone xs
  pub met : new.met ≡ old.met ++ map kind xs
