-- What is to be seen of a producer.
use Rattle.std.specs.Prelude.{if◌then◌else◌, ℕ, Bool, true, length, min, Option, Some, None}
use Rattle.kp_embed.specs.declared.embed.Phase.{Phase}
use Rattle.kp_embed.specs.declared.embed.Phase.TheVariants.{Opening, Ready, Spent, Failed}
use Rattle.kp_rules.specs.Counts.{all_queued, attempts_sent, batches_handed_over}
use Rattle.kp_rules.specs.Flush.{is_flushed}
use Rattle.kp_rules.specs.Partitions.{all_untold, used}
use Rattle.kp_rules.specs.Records.{Core}
use Rattle.kp_rules.specs.Requesting.{is_spent}

-- It is ready where it has a core, while correlation ids are left; without one it is opening until that is too late.
abbrev pub phase_of : Option Core → (is_failed : Bool) → Phase
phase_of None is_failed = if is_failed then Failed else Opening
phase_of (Some s) is_failed = if is_spent s then Spent else Ready

-- Each record that was accepted before the last flush is told.
abbrev pub flushed_of : Option Core → Bool
flushed_of None = true
flushed_of (Some s) = is_flushed s

-- how many records were accepted and are not told
abbrev pub untold_of : Option Core → ℕ
untold_of None = 0
untold_of (Some s) = length (all_untold s)

-- the memory that they take
abbrev pub used_of : Option Core → ℕ
used_of None = 0
used_of (Some s) = used s

abbrev pub in_flight_of : Option Core → ℕ
in_flight_of None = 0
in_flight_of (Some s) = length s.requests

-- how many batches were handed over, up to what a u64 holds
abbrev pub batches_of : Option Core → ℕ
batches_of None = 0
batches_of (Some s) = min (batches_handed_over s) 18446744073709551615

-- how often batches went out, first or again, up to what a u64 holds
abbrev pub attempts_of : Option Core → ℕ
attempts_of None = 0
attempts_of (Some s) = min (attempts_sent s) 18446744073709551615

-- how many records are queued, up to what a u64 holds
abbrev pub queued_of : Option Core → ℕ
queued_of None = 0
queued_of (Some s) = min (all_queued s) 18446744073709551615
