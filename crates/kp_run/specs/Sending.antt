-- What a sender's lane accepts of its lines.
use Rattle.std.specs.Prelude.{◌≡◌, ℕ, ◌+◌, ◌<◌, ◌%◌, List, [], ◌∷◌, ◌++◌, Some}
use Rattle.kp_accum.specs.declared.item.Item.{Item}
use Rattle.kp_batch.specs.declared.record.Record.{Record}
use Rattle.kp_lanes.specs.Entries.{IsNext}
use Rattle.kp_lanes.specs.Limits.{charge_of}
use Rattle.kp_lanes.specs.Outbox.{keyed_to, moved_on}
use Rattle.kp_lanes.specs.declared.limits.Limits.{Limits}
use Rattle.kp_dealing.specs.Dealing.{dealt_line, Deal, IsRecordOf}

-- the record of line k of the sender
pub record IsLine (deal : Deal) (sender k : ℕ) (body : Record) : Type 0 where
  pub line : List ℕ
  pub is : dealt_line deal.senders sender k deal.lines ≡ Some line
  pub moment : ℕ
  pub holds : IsRecordOf deal.keyed moment line body

-- The items are, in their order, the records of the sender's first n lines, but those that are too large. A record with a
-- key goes to the key's partition; the others go round the partitions, from the sender's own one, and turn is the next.
pub data AreSent (deal : Deal) (limits : Limits) (sender : ℕ) : (n turn : ℕ) → List Item → Type 0 where
  none : AreSent deal limits sender 0 (sender % limits.partitions) []
  sent : (n turn : ℕ) (items : List Item) (x : Item) → AreSent deal limits sender n turn items → IsLine deal sender n x.body
      → x.sender ≡ sender → x.partition ≡ keyed_to limits.partitions turn x.body.key → IsNext items x
      → AreSent deal limits sender (n + 1) (moved_on limits.partitions turn x.body.key) (items ++ x ∷ [])
  left_out : (n turn : ℕ) (items : List Item) (body : Record) → AreSent deal limits sender n turn items → IsLine deal sender n body
      → limits.max_record < charge_of body → AreSent deal limits sender (n + 1) turn items

-- The same, where it is not said how many lines, and whose turn it is.
pub record HaveLines (deal : Deal) (limits : Limits) (sender : ℕ) (items : List Item) : Type 0 where
  pub tried : ℕ
  pub turn : ℕ
  pub are : AreSent deal limits sender tried turn items
