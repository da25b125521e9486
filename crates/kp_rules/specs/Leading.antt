-- Leaders: the node that leads a partition is told from outside, and may change at any time.
use Rattle.std.specs.Prelude.{ℕ, filter, if◌then◌else◌}
use Rattle.kp_rules.specs.Attempts.{is_live}
use Rattle.kp_rules.specs.Dropping.{drop_attempts}
use Rattle.kp_rules.specs.Partitions.{leads, partition_at, with_partition}
use Rattle.kp_rules.specs.Records.{Partition, Core}

-- another node leads it, and what was in flight waits for a retry from this moment on
abbrev pub moved_to : ℕ → ℕ → Partition → Partition
moved_to leader now t = record (drop_attempts now t) { leader = leader }

-- The partition once this node leads it. Where it led it already, nothing changes.
abbrev pub led_by : ℕ → ℕ → Partition → Partition
led_by leader now t = if leads leader t then t else moved_to leader now t

-- A request stays in flight while one of its attempts is.
abbrev pub with_live : Core → Core
with_live s = record s { requests = filter (is_live s.partitions) s.requests }

unfoldable pub lead_step : (partition leader now : ℕ) → Core → Core
lead_step p leader now s =
    with_live (with_partition p (led_by leader now (partition_at p s.partitions)) s)
