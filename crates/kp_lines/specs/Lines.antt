-- A stream that is cut into lines as it comes.
use Rattle.std.specs.Prelude.{◌≡◌, ◌≢◌, ℕ, ◌+◌, ◌≤◌, ◌^◌, List, [], ◌∷◌, ◌++◌, length, map, Option, Some, None}
use Rattle.std.specs.List.{flat_map}
use Rattle.kp_lines.specs.declared.fault.LineFault.{LineFault}
use Rattle.kp_lines.specs.declared.fault.LineFault.TheVariants.{OutOfMemory, Spent}
use Rattle.kp_lines.specs.declared.line.Line.{Line}
use Rattle.kp_lines.specs.Split.{SplitsAt}

-- where a stream is cut, what has begun of the line whose delimiter has not come, and the number of that line
pub record Cutting : Type 0 where
  pub delimiter : ℕ
  pub begun : List ℕ
  pub next : ℕ

-- nothing has come
abbrev pub beginning : (delimiter : ℕ) → Cutting
beginning delimiter = record { delimiter = delimiter; begun = []; next = 1 }

abbrev pub bytes_of : Line → List ℕ
bytes_of line = line.bytes.items

-- Their numbers go on from this one.
abbrev pub AreNumbered : ℕ → List Line → Type 0
AreNumbered n [] = Unit {0}
AreNumbered n (line ∷ lines) = (line.number ≡ n) × AreNumbered (n + 1) lines

-- ---- one call

-- What had begun, and behind it the bytes that were taken, are the lines that were told, and then what has begun now.
pub record Tells (old : Cutting) (taken : List ℕ) (told : List Line) (new : Cutting) : Type 0 where
  pub split : SplitsAt old.delimiter (old.begun ++ taken) (map bytes_of told) new.begun
  pub numbers : AreNumbered old.next told
  pub next : new.next ≡ old.next + length told
  pub delimiter : new.delimiter ≡ old.delimiter

-- A line was told of the front of the chunk, and the rest of the chunk is behind it; or the chunk was taken whole.
abbrev pub Takes : Cutting → (chunk : List ℕ) → Option (Line × List ℕ) → Cutting → Type 0
Takes old chunk (Some told) new = (front : List ℕ) × (chunk ≡ front ++ told.1) × Tells old front (told.0 ∷ []) new
Takes old chunk None new = Tells old chunk [] new

-- why no line is told
abbrev pub Refuses : Cutting → LineFault → Type 0
Refuses old OutOfMemory = Unit {0}
Refuses old Spent = 2 ^ 64 ≤ old.next + 1

-- The stream ends here: what has begun is its last line, unless that is nothing.
abbrev pub Ends : Cutting → Option Line → Type 0
Ends s (Some line) = (bytes_of line ≡ s.begun) × (s.begun ≢ []) × (line.number ≡ s.next)
Ends s None = s.begun ≡ []

-- ---- many calls

-- the bytes that a call took, and the lines that it told
abbrev pub Call : Type 0
Call = List ℕ × List Line

-- These calls, one after the other, lead from the one to the other.
abbrev pub Follow : Cutting → List Call → Cutting → Type 0
Follow s [] after = after ≡ s
Follow s (call ∷ calls) after = (between : Cutting) × Tells s call.0 call.1 between × Follow between calls after

abbrev pub taken_by : List Call → List ℕ
taken_by calls = flat_map (λ (call : Call). call.0) calls

abbrev pub told_by : List Call → List Line
told_by calls = flat_map (λ (call : Call). call.1) calls
