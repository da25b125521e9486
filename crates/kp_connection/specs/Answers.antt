-- What the calls on a stream answered.
use Rattle.std.specs.Prelude.{ℕ, List, [], take, Result, Ok, Err}
use Rattle.std.specs.List.{flat_map}
use Rattle.std.specs.declared.io.Error.{Error}
use Rattle.futures.specs.declared.task.Poll.{Poll}
use Rattle.futures.specs.declared.task.Poll.TheVariants.{Ready, Pending}

-- One answer. A read that came with no bytes met the end.
pub data Answer : Type 0 where
  Came : (bytes : List ℕ) → Answer
  Read_waits : Answer
  Read_failed : Answer
  Went : (bytes : List ℕ) → Answer
  Write_waits : Answer
  Write_failed : Answer

abbrev pub read_answer : Poll (Result ℕ Error) → List ℕ → Answer
read_answer (Ready (Ok n)) buf = Came (take n buf)
read_answer (Ready (Err e)) buf = Read_failed
read_answer Pending buf = Read_waits

abbrev pub write_answer : Poll (Result ℕ Error) → List ℕ → Answer
write_answer (Ready (Ok n)) buf = Went (take n buf)
write_answer (Ready (Err e)) buf = Write_failed
write_answer Pending buf = Write_waits

-- the bytes that one answer brought
abbrev pub came_by : Answer → List ℕ
came_by (Came bytes) = bytes
came_by Read_waits = []
came_by Read_failed = []
came_by (Went bytes) = []
came_by Write_waits = []
came_by Write_failed = []

-- the bytes that one answer took
abbrev pub gone_by : Answer → List ℕ
gone_by (Came bytes) = []
gone_by Read_waits = []
gone_by Read_failed = []
gone_by (Went bytes) = bytes
gone_by Write_waits = []
gone_by Write_failed = []

-- all bytes that were read
abbrev pub came : List Answer → List ℕ
came xs = flat_map came_by xs

-- all bytes that were written
abbrev pub gone : List Answer → List ℕ
gone xs = flat_map gone_by xs
