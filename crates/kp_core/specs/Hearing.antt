-- A response is heard, in parts.
use Rattle.std.specs.Prelude.{◌≡◌, ℕ, Bool, true, List, Result, Err, slice_index_or, slice_set, if◌then◌else◌}
use Rattle.kp_accum.specs.declared.config.Config.{Config}
use Rattle.kp_core.specs.declared.machine.matching.Entry.{Entry}
use Rattle.kp_core.specs.declared.machine.matching.Entry.TheVariants.{Missing, One, Several}
use Rattle.kp_frames.specs.declared.fault.FrameFault.{FrameFault}
use Rattle.kp_frames.specs.declared.fault.FrameFault.TheVariants as frame
use Rattle.kp_frames.specs.declared.response.Response.{Response}
use Rattle.kp_rules.specs.Attempts.{awaiting}
use Rattle.kp_rules.specs.declared.fault.CoreFault.{CoreFault}
use Rattle.kp_rules.specs.declared.fault.CoreFault.TheVariants.{OutOfMemory, ReplyFault}
use Rattle.kp_rules.specs.declared.ticked.Replied.{Replied}
use Rattle.kp_rules.specs.Calls.{Gives}
use Rattle.kp_rules.specs.MaySend.{wants_id}
use Rattle.kp_rules.specs.Mismatch.{has_offsets}
use Rattle.kp_rules.specs.Partitions.{partition_at}
use Rattle.kp_rules.specs.Records.{Partition, Effect, Core}
use Rattle.kp_rules.specs.Replies.{go_on_under, response_step}
use Rattle.kp_rules.specs.Settling.{left_alone, settle_batch}

-- why a reply is refused that is not read
abbrev pub refused_by : FrameFault → CoreFault
refused_by frame.OutOfMemory = OutOfMemory
refused_by fault = ReplyFault fault

-- It is heard by the rules; or memory was refused, and nothing has changed.
abbrev pub Hears : ℕ → Response → Core → Result Replied CoreFault → Core → Type 0
Hears now response s (Err OutOfMemory) t = t ≡ s
Hears now response s answer t = Gives (response_step now response s) answer t

-- what stands for this partition's entries
abbrev pub entry_at : ℕ → List Entry → Entry
entry_at p found = slice_index_or found p Missing

-- the partition, settled by its entry
abbrev pub settled_by : ℕ → ℕ → Entry → Partition → Effect
settled_by now k Missing t = left_alone t
settled_by now k (One entry) t = settle_batch now k t entry.now
settled_by now k Several t = left_alone t

-- the offsets that its entry gives are there
abbrev pub offsets_by : ℕ → Entry → Partition → Bool
offsets_by k Missing t = true
offsets_by k (One entry) t = has_offsets (awaiting k t) entry.now
offsets_by k Several t = true

-- this partition goes on under the id, where it still wants one
abbrev pub id_given : Config → ℕ → ℕ → List Partition → List Partition
id_given c id p ts =
    let t = partition_at p ts in
    if wants_id c t then slice_set ts p (go_on_under id t) else ts
