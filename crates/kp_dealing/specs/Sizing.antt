-- Lines that are too large to be sent.
use Rattle.std.specs.Prelude.{◌≡◌, ℕ, Bool, List, min, nat_lt}
use Rattle.kp_accum.specs.declared.config.Config.{Config}
use Rattle.kp_batch.specs.declared.record.Record.{Record}
use Rattle.kp_lanes.specs.Limits.{charge_of}
use Rattle.kp_options.specs.declared.options.Options.{Options}
use Rattle.kp_dealing.specs.Dealing.{IsRecordOf}

-- the most that a record may take
abbrev pub largest : Config → ℕ
largest config = min config.max_request_size config.buffer_memory

-- whether the line's record, of some moment, takes more than a record may
pub record IsToldTooLarge (options : Options) (line : List ℕ) (is : Bool) : Type 0 where
  pub moment : ℕ
  pub body : Record
  pub record_of : IsRecordOf options.keyed moment line body
  pub larger : is ≡ nat_lt (largest options.config) (charge_of body)
