use Rattle.std.proofs.Common.{◌≡◌, ◌++◌, take, drop}
use Rattle.kp_rules.specs.Next.{fitting}
use Rattle.kp_core.proofs.machine.choosing.count_fitting.Given as goal

abbrev pub invariant-loop-place : goal.invariant-loop-place
invariant-loop-place l = take l.place l.sendings ++ fitting l.left (drop l.place l.sendings) ≡ fitting l.room l.sendings
