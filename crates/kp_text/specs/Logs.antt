-- The text of logs.
use Rattle.std.specs.Prelude.{ℕ, List, [], map, unwrap_or, Option, Some, None, slice_get, ℤ, flat_map}
use Rattle.kp_log.specs.declared.stored.Stored.{Stored}
use Rattle.kp_log.specs.History.{own_offsets}
use Rattle.kp_text.specs.Lines.{log_line}

-- a record's value; Kafka's null has no byte
abbrev pub value_of : Stored → List ℕ
value_of stored = unwrap_or stored.body.value []

abbrev pub values_of : List Stored → List (List ℕ)
values_of records = map value_of records

-- the line of the record at an offset, where there is one
abbrev pub line_of : ℕ → ℕ → Option Stored → List ℕ
line_of partition offset None = []
line_of partition offset (Some stored) = log_line partition offset (value_of stored)

abbrev pub line_at : ℕ → List Stored → ℕ → List ℕ
line_at partition records offset = line_of partition offset (slice_get records offset)

-- the lines of the records under these ids
abbrev pub own_lines : ℕ → List ℤ → List Stored → List ℕ
own_lines partition ids records = flat_map (line_at partition records) (own_offsets ids records)
