use Rattle.std.proofs.Common.{◌≢◌, ◌<◌, ℕ, get_or}
use Rattle.kp_lanes.specs.Settling.{numbers}
use Rattle.kp_lanes.proofs.settling.differ.Given as goal

abbrev pub invariant-loop-k : goal.invariant-loop-k
invariant-loop-k l = (a b : ℕ) → a < b → b < l.k → get_or (numbers l.finished.items) a 0 ≢ get_or (numbers l.finished.items) b 0

abbrev pub invariant-loop-j : goal.invariant-loop-j
invariant-loop-j l = (a : ℕ) → a < l.j → get_or (numbers l.finished.items) a 0 ≢ get_or (numbers l.finished.items) l.k 0
