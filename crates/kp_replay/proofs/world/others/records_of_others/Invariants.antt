use Rattle.std.proofs.Common.{◌≡◌, replicate}
use Rattle.std.specs.Prelude.{codes}
use Rattle.kp_world.specs.Events.{record_at}
use Rattle.kp_replay.proofs.world.others.records_of_others.Given as goal

abbrev pub invariant-loop : goal.invariant-loop
invariant-loop l = l.records.items ≡ replicate l.counter (record_at 0 (codes "other"))
