-- Why an item is told what it is told: there are no other causes.
use Rattle.std.specs.Prelude.{◌≡◌, ℕ, ◌+ℤ◌, ℤ, pos, true, false, List}
use Rattle.std.specs.List.{list_any}
use Rattle.kp_accum.specs.declared.item.Item.{Item}
use Rattle.kp_frames.specs.declared.api.Api.{Api}
use Rattle.kp_frames.specs.declared.response.Response.{Response}
use Rattle.kp_frames.specs.Response.{Spells}
use Rattle.kp_rules.specs.declared.outcome.Outcome.{Outcome}
use Rattle.kp_rules.specs.declared.outcome.Outcome.TheVariants.{Delivered, DeliveredNoOffset, Unknown, Rejected, Unsent}
use Rattle.kp_rules.specs.declared.outcome.Reason.TheVariants.{Expired, Fenced, Ended}
use Rattle.kp_rules.specs.declared.meaning.Meaning.TheVariants.{Stored, Duplicate, Reject}
use Rattle.kp_rules.specs.Appending.{append_step}
use Rattle.kp_rules.specs.Attempts.{awaits}
use Rattle.kp_rules.specs.Calls.{Call}
use Rattle.kp_rules.specs.Calls as call
use Rattle.kp_rules.specs.Causes.{IsOpenIn, IsQueuedIn, ExpiresIn, Settles, RejectsIn}
use Rattle.kp_rules.specs.Closing.{end_step}
use Rattle.kp_rules.specs.Partitions.{partition_at}
use Rattle.kp_rules.specs.Records.{Partition, Core, Told}
use Rattle.kp_rules.specs.Replies.{response_step}
use Rattle.kp_rules.specs.Tick.{is_open_late, tick_step}

-- ---- the calls that tell, a reply as the response that it is read as, and what they tell

pub data Telling : Type 0 where
  Append : Item → Telling
  Tick : (node now : ℕ) → Telling
  Reply : (now : ℕ) → Response → Telling
  End : Telling

abbrev pub told_in : Core → Telling → List Told
told_in s (Append i) = (append_step i s).told
told_in s (Tick node now) = (tick_step node now s).told
told_in s (Reply now response) = (response_step now response s).told
told_in s End = (end_step s).told

-- ---- what fences a partition: an open batch whose delivery timeout is over, or a rejection

abbrev pub IsLate : Core → ℕ → ℕ → Type 0
IsLate s now p =
    list_any (is_open_late s.config now) (partition_at p s.partitions).open_batches ≡ true

abbrev pub Fences : Core → Telling → ℕ → Type 0
Fences s (Tick node now) p = IsLate s now p
Fences s (Reply now response) p = RejectsIn s response p
Fences s call p = ⊥

-- ---- the rule

-- the item is in an open batch other than the one that awaits the reply to request k
pub record IsOpenBeside (k : ℕ) (t : Partition) (i : Item) : Type 0 where
  pub here : IsOpenIn t i
  pub other : awaits k here.batch ≡ false

abbrev pub TellsUnknown : Core → Telling → Item → Type 0
TellsUnknown s (Append j) i = ⊥
TellsUnknown s (Tick node now) i = (p : ℕ) × IsLate s now p × IsOpenIn (partition_at p s.partitions) i
TellsUnknown s (Reply now response) i =
    (p : ℕ) × (rejected : RejectsIn s response p)
    × IsOpenBeside rejected.answered.correlation (partition_at p s.partitions) i
TellsUnknown s End i = (p : ℕ) × IsOpenIn (partition_at p s.partitions) i

abbrev pub TellsFenced : Core → Telling → Item → Type 0
TellsFenced s (Append j) i =
    (i ≡ j) × (s.ended ≡ false) × ((partition_at j.partition s.partitions).fenced ≡ true)
TellsFenced s call i = (p : ℕ) × Fences s call p × IsQueuedIn (partition_at p s.partitions) i

abbrev pub TellsEnded : Core → Telling → Item → Type 0
TellsEnded s (Append j) i = (i ≡ j) × (s.ended ≡ true)
TellsEnded s End i = (p : ℕ) × IsQueuedIn (partition_at p s.partitions) i
TellsEnded s call i = ⊥

abbrev pub TellsExpired : Core → Telling → Item → Type 0
TellsExpired s (Tick node now) i = (p : ℕ) × ExpiresIn s.config now (partition_at p s.partitions) i
TellsExpired s call i = ⊥

-- The reply settles the item's batch by this verdict, and what is told fits its answer.
abbrev pub TellsBy : (Core → Response → Item → Type 0) → Core → Telling → Item → Type 0
TellsBy P s (Reply now response) i = P s response i
TellsBy P s call i = ⊥

-- item k of a batch is told the batch's offset and k
abbrev pub IsDelivered : ℤ → Core → Response → Item → Type 0
IsDelivered offset s response i =
    (x : Settles s response i Stored) × (offset ≡ x.answer.base_offset +ℤ pos x.place)

abbrev pub IsDuplicate : Core → Response → Item → Type 0
IsDuplicate s response i = Settles s response i Duplicate

abbrev pub IsRejected : ℤ → Core → Response → Item → Type 0
IsRejected code s response i = (x : Settles s response i Reject) × (code ≡ x.answer.error_code)

unfoldable pub MayTell : Core → Telling → Item → Outcome → Type 0
MayTell s call i (Delivered offset) = TellsBy (IsDelivered offset) s call i
MayTell s call i DeliveredNoOffset = TellsBy IsDuplicate s call i
MayTell s call i (Rejected code) = TellsBy (IsRejected code) s call i
MayTell s call i Unknown = TellsUnknown s call i
MayTell s call i (Unsent Expired) = TellsExpired s call i
MayTell s call i (Unsent Fenced) = TellsFenced s call i
MayTell s call i (Unsent Ended) = TellsEnded s call i

-- ---- a call on the core, as one that tells: a reply as the response that its bytes are

abbrev pub IsTelling : Call → Telling → Type 0
IsTelling (call.Append i answer) x = x ≡ Append i
IsTelling (call.Tick node now answer) x = x ≡ Tick node now
IsTelling (call.Reply now content answer) x =
    (api : Api) × (response : Response) × Spells api content response × (x ≡ Reply now response)
IsTelling (call.End reports) x = x ≡ End
IsTelling other x = ⊥

-- the call is one that may tell it
abbrev pub MayBeToldBy : Core → Call → Told → Type 0
MayBeToldBy s c t = (x : Telling) × IsTelling c x × MayTell s x t.item t.outcome

-- the call is one that fences the partition
abbrev pub IsFencedBy : Core → Call → ℕ → Type 0
IsFencedBy s c p = (x : Telling) × IsTelling c x × Fences s x p
