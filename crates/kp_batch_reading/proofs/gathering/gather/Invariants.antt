use Rattle.std.proofs.Common.{List}
use Rattle.kp_batch.specs.declared.relative.RelativeRecord.{RelativeRecord}
use Rattle.kp_batch_reading.proofs.GatherLemmas.{SoFar, gathered}
use Rattle.kp_batch_reading.proofs.gathering.gather.Given as goal

abbrev pub invariant-loop-k : goal.invariant-loop-k
invariant-loop-k l = (front : List RelativeRecord) × SoFar l.summary.base_timestamp l.count l.k l.bytes l.rest front (gathered l.records.items l.greatest l.in_places l.timed)
