-- A core that can send nothing any more.
use Rattle.std.specs.Prelude.{Bool, not, ◌&&◌, ◌==◌, length, min}
use Rattle.kp_rules.specs.Counts.{all_queued}
use Rattle.kp_rules.specs.Partitions.{all_untold}
use Rattle.kp_rules.specs.Records.{Core}
use Rattle.kp_rules.specs.Requesting.{is_spent}

-- Each correlation id was used, and each item that is not told is queued, so that nothing is open; and it has not ended. (Items
-- are counted up to what a u64 holds.)
abbrev pub can_only_end : Core → Bool
can_only_end s = not s.ended && (is_spent s && (length (all_untold s) == min (all_queued s) 18446744073709551615))
