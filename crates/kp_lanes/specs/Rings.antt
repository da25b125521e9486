-- Which ring an end is of.
use denote.RawPtr.{Ptr}
use Rattle.rtrb.specs.Shared.{Names}
use Rattle.rtrb.specs.declared.producer.Producer.{Producer}
use Rattle.rtrb.specs.declared.consumer.Consumer.{Consumer}

-- which ring it is: its two blocks and its ghost names
pub record RingId : Type 0 where
  pub words : Ptr
  pub slots : Ptr
  pub names : Names

module _ {T A P : Type 0} where
  abbrev pub push_end : Producer T A P → RingId
  push_end p = record { words = p.end.words; slots = p.end.slots; names = p.end.names }

  abbrev pub pop_end : Consumer T A P → RingId
  pop_end c = record { words = c.end.words; slots = c.end.slots; names = c.end.names }
