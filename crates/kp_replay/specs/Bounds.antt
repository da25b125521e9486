-- How large a running world is, and what else stays.
use Rattle.std.specs.Prelude.{◌≡◌, ℕ, ◌<◌, ◌≤◌, ◌^◌, length, Ok}
use Rattle.kp_accum.specs.Config.{checked}
use Rattle.kp_rules.specs.Records.{Core}

-- Its core's configuration is let through; what it keeps by sender and by partition is for the core's, of
-- which there are so many at most; and its moment is an int64.
pub record IsInBounds (s : Core) (lists counts history now : ℕ) : Type 0 where
  pub config : checked s.config ≡ Ok tt
  pub partitions : length s.partitions ≤ 1024
  pub senders : length s.reports ≤ 64
  pub accepted : lists ≡ length s.reports
  pub taken : counts ≡ length s.reports
  pub logs : history ≡ length s.partitions
  pub moment : now < 2 ^ 63
