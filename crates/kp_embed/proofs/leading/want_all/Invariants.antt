use Rattle.std.proofs.Common.{◌≡◌}
use Rattle.kp_embed.proofs.leading.want_all.Given as goal

abbrev pub invariant-loop-partition : goal.invariant-loop-partition
invariant-loop-partition l = l.cluster.leaders ≡ l.initial.cluster.leaders
