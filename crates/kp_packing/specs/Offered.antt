-- What a log makes of a batch that is offered twice.
use Rattle.std.specs.Prelude.{◌≡◌, ℤ, pos, List}
use Rattle.kp_batch.specs.declared.record.Record.{Record}
use Rattle.kp_log.specs.declared.answer.Answer.TheVariants.{Stored}
use Rattle.kp_log.specs.Log.{stored_as}
use Rattle.kp_packing.specs.declared.offering.Offered.{Offered}

-- Both answers say that the batch stands at offset 0, and the log has its records once.
pub record StoredOnce (producer_id : ℤ) (records : List Record) (o : Offered) : Type 0 where
  pub first : o.first ≡ Stored (pos 0)
  pub repeat : o.repeat ≡ Stored (pos 0)
  pub once : o.log.records ≡ stored_as producer_id records
