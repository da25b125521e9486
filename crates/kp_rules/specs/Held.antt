-- Which records a program can hold.
use Rattle.std.specs.Prelude.{◌<◌, ◌^◌}
use Rattle.std.specs.List.{AllByRecursion}
use Rattle.std.specs.Str.{IsUtf8}
use Rattle.kp_batch.specs.declared.record.Record.{Record}

-- a record as a program can hold it: a moment that is an int64, and header keys in UTF-8
pub record IsRecord (r : Record) : Type 0 where
  pub moment : r.timestamp < 2 ^ 63
  pub keys : AllByRecursion (λ h. IsUtf8 h.key) r.headers
