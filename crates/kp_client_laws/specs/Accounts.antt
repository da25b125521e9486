-- What became of all that senders had accepted.
use Rattle.std.specs.Prelude.{◌≡◌, ℕ, ◌<◌, Bool, true, List, All, Contains, Some, filter, not, slice_get, ◌==◌, ◌&&◌}
use Rattle.std.specs.List.{list_any}
use Rattle.kp_accum.specs.declared.item.Item.{Item}
use Rattle.kp_accum.specs.Queue.{body_of}
use Rattle.kp_client.specs.Left.{items_left}
use Rattle.kp_client.specs.declared.left.Left.{Left}
use Rattle.kp_client_laws.specs.Told.{all_reports}
use Rattle.kp_headline.specs.Outside.{State, known}
use Rattle.kp_lanes.specs.Sender.{all_accepted, finished_number}
use Rattle.kp_lanes.specs.declared.sender.Finished.{Finished}
use Rattle.kp_log.specs.declared.stored.Stored.{Stored}
use Rattle.kp_rules.specs.declared.outcome.Report.{Report}
use Rattle.kp_world.specs.Accepting.{for_partition}
use Rattle.kp_world.specs.Accounts.{is_among, is_unsent, items_handed, of_sender}
use Rattle.kp_world.specs.LogLaws.{own_records}
use Rattle.kp_world.specs.World.{Opening}

-- one of these reports says of the record that it was never sent
abbrev pub is_unsent_by : List Report → Item → Bool
is_unsent_by reports i =
    list_any (λ r. i.partition == r.partition && (i.number == r.number && is_unsent r.outcome)) reports

-- The sender was not told Unsent of the record, and it does not come back.
abbrev pub was_sent : Left → Finished → Item → Bool
was_sent left f i =
    not (is_unsent_by (all_reports left f) i) && not (is_among i (items_left left (finished_number f)))

-- Of each partition, what was handed over of a sender's records is, in order and once, what the sender had accepted but
-- for what it was told Unsent of and what comes back.
abbrev pub AreAccountedFor : Opening → State → Left → List Finished → Type 0
AreAccountedFor o b left finished =
    All (λ f. (p : ℕ) → p < o.partitions
    → of_sender (finished_number f) (items_handed p (known b))
    ≡ filter (was_sent left f) (for_partition p (all_accepted f))) finished

-- The record is one that a sender had accepted for the partition; it was not told Unsent of it, and it does not come back.
pub record WasSent (p : ℕ) (left : Left) (finished : List Finished) (s : Stored) : Type 0 where
  pub sender : Finished
  pub among : Contains finished sender
  pub item : Item
  pub accepted : Contains (all_accepted sender) item
  pub partition : item.partition ≡ p
  pub sent : was_sent left sender item ≡ true
  pub body : s.body ≡ body_of item

-- So is each record of this producer in a log.
abbrev pub WereSent : Opening → State → Left → List Finished → Type 0
WereSent o b left finished =
    (p k : ℕ) (s : Stored)
    → p < o.partitions
    → slice_get (own_records p (known b)) k ≡ Some s
    → WasSent p left finished s
