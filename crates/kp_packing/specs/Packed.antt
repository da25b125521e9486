-- What is printed of values that were packed into one batch.
use Rattle.std.specs.Prelude.{ℕ, List, [], ◌∷◌, ◌++◌, length, map, pos, Some, None}
use Rattle.kp_batch.specs.declared.record.Record.{Record}
use Rattle.kp_batch.specs.Spelling.{size_of_batch}
use Rattle.kp_text.specs.Lines.{answer_line, batch_line, log_lines}

-- a value's record, at the moment 0
abbrev pub record_of : List ℕ → Record
record_of value = record { timestamp = 0; key = None; value = Some value; headers = [] }

abbrev pub records_of : List (List ℕ) → List Record
records_of values = map record_of values

-- ---- the whole text

-- The batch was stored at offset 0, and its repeat was answered alike.
abbrev pub packed_text : List (List ℕ) → List ℕ
packed_text [] = batch_line 0 0
packed_text (value ∷ values) =
    let all = value ∷ values in
    batch_line (size_of_batch (records_of all)) (length all)
    ++ answer_line (pos 0) (pos 0)
    ++ answer_line (pos 0) (pos 0)
    ++ log_lines 0 0 all
