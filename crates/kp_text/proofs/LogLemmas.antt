-- The text of a log, record by record.
use Rattle.std.proofs.Common.{◌≡◌, ℕ, ◌+◌, ◌<◌, List, [], ◌++◌, length, get_or, drop, refl, ap, sym, ◌∙◌, add-one, Some, slice_get}
use Rattle.std.specs.Option.{option_map}
use Rattle.std.proofs.lemmas.Option.{get_or_from_slice_get, slice_get-map}
use Rattle.std.proofs.Math.Seq.{drop-cons}
use Rattle.kp_log.specs.declared.stored.Stored.{Stored}
use Rattle.kp_text.specs.Lines.{log_line, log_lines}
use Rattle.kp_text.specs.Logs.{value_of, values_of}

pub log_lines-drop : (partition : ℕ) (values : List (List ℕ)) (k : ℕ) → k < length values
    → log_lines partition k (drop k values)
    ≡ log_line partition k (get_or values k []) ++ log_lines partition (k + 1) (drop (k + 1) values)
log_lines-drop partition values k within = rw (add-one, drop-cons values k []) refl

pub values_of-at : (records : List Stored) (k : ℕ) (s : Stored) → Some s ≡ slice_get records k → get_or (values_of records) k [] ≡ value_of s
values_of-at records k s is = get_or_from_slice_get (values_of records) k (value_of s) [] (slice_get-map value_of records k ∙ ap (option_map value_of) (sym is))
