-- What becomes of a record that is given to a producer.
use Rattle.std.specs.Prelude.{◌≡◌, ◌≤◌, ◌<◌, ◌^◌, ◌+◌, ◌⊎◌, ℕ, true, false, [], ◌∷◌, length, Some, Ok, slice_index}
use Rattle.kp_accum.specs.Queue.{charge_of}
use Rattle.kp_accum.specs.declared.item.Item.{Item}
use Rattle.kp_batch.specs.declared.record.Record.{Record}
use Rattle.kp_embed.specs.Going.{Acts}
use Rattle.kp_embed.specs.Lines.{SameLines}
use Rattle.kp_embed.specs.Producer.{Producer}
use Rattle.kp_batch.specs.declared.size.TheConstants.{SIZE_LIMIT}
use Rattle.kp_embed.specs.declared.fault.SendFault.{SendFault}
use Rattle.kp_embed.specs.declared.fault.SendFault.TheVariants.{Closed, NotReady, NoPartition, TooLarge, BufferFull, Spent, OutOfMemory}
use Rattle.kp_embed.specs.declared.target.Target.{Target}
use Rattle.kp_embed.specs.declared.target.Target.TheVariants.{Partition, Any}
use Rattle.kp_embed.specs.declared.target.Ticket.{Ticket}
use Rattle.kp_rules.specs.Appending.{may_append, would_exhaust}
use Rattle.kp_rules.specs.Calls.{Append}
use Rattle.kp_rules.specs.Records.{Core}
use Rattle.kp_rules.specs.Requesting.{is_spent}

-- the record as the item with this ticket
abbrev pub item_of : Ticket → (now : ℕ) → Record → Item
item_of t now body = record { sender = 0; partition = t.partition; number = t.number; at = now; body = body }

-- It was appended, as the next of its partition, while correlation ids are left; connections are as they were.
pub record Sends (old : Producer) (now : ℕ) (body : Record) (t : Ticket) (new : Producer) : Type 0 where
  pub acts : Acts old (Append (item_of t now body) (Ok tt) ∷ []) new
  pub left : (s : Core) → old.core ≡ Some s → is_spent s ≡ false
  pub number : t.number ≡ slice_index old.counts t.partition
  pub lines : SameLines old.lines new.lines

-- ---- where it goes

-- a partition that is named is the one
abbrev pub GoesTo : Target → (partition : ℕ) → Type 0
GoesTo (Partition p) partition = partition ≡ p
GoesTo Any partition = Unit {0}

-- without one it is one that is there
abbrev pub IsThere : Target → (count partition : ℕ) → Type 0
IsThere (Partition p) count partition = Unit {0}
IsThere Any count partition = partition < count

-- ---- why it is refused

-- The producer is closed, or knows no partition, or not the one that is named.
abbrev pub HasNoPlace : Producer → Target → SendFault → Type 0
HasNoPlace p target Closed = p.is_closed ≡ true
HasNoPlace p target NotReady = p.counts ≡ []
HasNoPlace p (Partition n) NoPartition = length p.counts ≤ n
HasNoPlace p target fault = ⊥

-- Every correlation id was used; or the core has ended, or no request can hold the item, or not all the memory that there may be,
-- or what is left of that; or memory was refused for one that has room.
abbrev pub DoesNotTake : Core → Item → SendFault → Type 0
DoesNotTake s i Spent = is_spent s ≡ true
DoesNotTake s i Closed = s.ended ≡ true
DoesNotTake s i TooLarge = may_append i s ≡ false
DoesNotTake s i BufferFull = charge_of i ≤ SIZE_LIMIT → would_exhaust i s ≡ true
DoesNotTake s i OutOfMemory = would_exhaust i s ≡ false
DoesNotTake s i fault = ⊥

-- Its number is the last that there may be.
abbrev pub IsLast : Ticket → SendFault → Type 0
IsLast t Spent = 2 ^ 64 ≤ t.number + 1
IsLast t fault = ⊥

-- That is so, or the core does not take it.
abbrev pub TurnsAway : Producer → Ticket → (now : ℕ) → Record → SendFault → Type 0
TurnsAway p t now body fault = IsLast t fault ⊎ ((s : Core) × (p.core ≡ Some s) × DoesNotTake s (item_of t now body) fault)

-- It has no place, or is turned away from it.
abbrev pub Refuses : Producer → Target → (now : ℕ) → Record → SendFault → Type 0
Refuses p target now body fault =
    HasNoPlace p target fault
    ⊎ ((t : Ticket) × GoesTo target t.partition × (t.number ≡ slice_index p.counts t.partition) × TurnsAway p t now body fault)
