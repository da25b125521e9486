use Rattle.std.proofs.Common.{◌≡◌, ◌++◌, map}
use Rattle.std.specs.Prelude.{All}
use Rattle.kp_run.specs.Jobs.{producer_of, IsIdle}
use Rattle.kp_run.proofs.producing.jobs_of.Given as goal

abbrev pub invariant-loop-producer : goal.invariant-loop-producer
invariant-loop-producer l = record {
  done : map producer_of l.jobs.items ++ l.producer-iterator.rest.items ≡ l.fn.producers.items;
  idle : All IsIdle l.jobs.items;
}
