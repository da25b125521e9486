use Rattle.std.proofs.Common.{◌≡◌, ◌-◌, ℕ, length, get_or}
use Rattle.kp_replay.proofs.accepted.count_as_far.Given as goal

abbrev pub invariant-loop-counts : goal.invariant-loop-counts
invariant-loop-counts l = (p : ℕ) → get_or l.counts.items p 0 ≡ get_or l.initial.counts.items p 0

abbrev pub decreases-loop-counts : goal.decreases-loop-counts
decreases-loop-counts l = l.partitions - length l.counts.items
