use Rattle.std.proofs.Common.{◌≡◌, max, map, drop}
use Rattle.kp_batch.specs.Spelling.{max_timestamp}
use Rattle.kp_batch.proofs.writing.latest_of.Given as goal

abbrev pub invariant-loop-item : goal.invariant-loop-item
invariant-loop-item g l =
    max l.latest (max_timestamp (drop l.item-index (map g.T.AsRecord.body l.records))) ≡ max l.initial.latest (max_timestamp (map g.T.AsRecord.body l.records))
