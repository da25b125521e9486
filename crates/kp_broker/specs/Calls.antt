-- What the calls on a connection answered.
use Rattle.std.specs.Prelude.{◌≡◌, ℕ, ◌<◌, List, [], ◌∷◌, ◌++◌, length, take, sum_by, Result, Ok, Err}
use Rattle.std.specs.List.{flat_map, AllByRecursion}
use Rattle.std.specs.declared.io.Error.{Error}

-- One answer. A read that came with no bytes met the end.
pub data Answer : Type 0 where
  Came : (bytes : List ℕ) → Answer
  Read_failed : Answer
  Went : (bytes : List ℕ) → Answer
  Write_failed : Answer
  Flushed : Answer
  Flush_failed : Answer

-- what a connection tells: a state, the answers of calls, and the state after
abbrev pub Told : Type 0 → Type 1
Told C = C → List Answer → C → Type 0

abbrev pub read_answer : Result ℕ Error → List ℕ → Answer
read_answer (Ok n) buf = Came (take n buf)
read_answer (Err e) buf = Read_failed

abbrev pub write_answer : Result ℕ Error → List ℕ → Answer
write_answer (Ok n) buf = Went (take n buf)
write_answer (Err e) buf = Write_failed

abbrev pub flush_answer : Result (Unit {0}) Error → Answer
flush_answer (Ok done) = Flushed
flush_answer (Err e) = Flush_failed

-- ---- what they moved

-- the bytes that one answer brought
abbrev pub came_by : Answer → List ℕ
came_by (Came bytes) = bytes
came_by Read_failed = []
came_by (Went bytes) = []
came_by Write_failed = []
came_by Flushed = []
came_by Flush_failed = []

-- the bytes that one answer took
abbrev pub gone_by : Answer → List ℕ
gone_by (Came bytes) = []
gone_by Read_failed = []
gone_by (Went bytes) = bytes
gone_by Write_failed = []
gone_by Flushed = []
gone_by Flush_failed = []

-- 1 where the answer is a read's
abbrev pub read_by : Answer → ℕ
read_by (Came bytes) = 1
read_by Read_failed = 1
read_by (Went bytes) = 0
read_by Write_failed = 0
read_by Flushed = 0
read_by Flush_failed = 0

-- all bytes that were read
abbrev pub came : List Answer → List ℕ
came xs = flat_map came_by xs

-- all bytes that were written
abbrev pub gone : List Answer → List ℕ
gone xs = flat_map gone_by xs

-- how many reads there were
abbrev pub reads : List Answer → ℕ
reads xs = sum_by read_by xs

-- ---- how they went

-- bytes were moved, or none is left in a buffer
abbrev pub IsGood : Answer → Type 0
IsGood (Came bytes) = 0 < length bytes
IsGood Read_failed = ⊥
IsGood (Went bytes) = 0 < length bytes
IsGood Write_failed = ⊥
IsGood Flushed = Unit {0}
IsGood Flush_failed = ⊥

-- the reader or the writer failed, or the writer took no bytes
abbrev pub HasFailed : Answer → Type 0
HasFailed (Came bytes) = ⊥
HasFailed Read_failed = Unit {0}
HasFailed (Went bytes) = bytes ≡ []
HasFailed Write_failed = Unit {0}
HasFailed Flushed = ⊥
HasFailed Flush_failed = Unit {0}

-- a read met the end
abbrev pub MetEnd : Answer → Type 0
MetEnd (Came bytes) = bytes ≡ []
MetEnd Read_failed = ⊥
MetEnd (Went bytes) = ⊥
MetEnd Write_failed = ⊥
MetEnd Flushed = ⊥
MetEnd Flush_failed = ⊥

abbrev pub AreGood : List Answer → Type 0
AreGood xs = AllByRecursion IsGood xs

-- each is good but the last, of which this holds
pub record EndsWith (Holds : Answer → Type 0) (xs : List Answer) : Type 0 where
  pub before : List Answer
  pub last : Answer
  pub are : xs ≡ before ++ last ∷ []
  pub good : AreGood before
  pub holds : Holds last
