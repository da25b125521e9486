use Rattle.std.proofs.Common.{◌≡◌, ◌+◌, ◌-◌, ◌≤◌, map, drop}
use Rattle.kp_batch.specs.Spelling.{measured, base_timestamp}
use Rattle.kp_batch.proofs.SizeLemmas.{bytes_from}
use Rattle.kp_batch.proofs.size.measure.Given as goal

abbrev pub invariant-loop-k : goal.invariant-loop-k
invariant-loop-k g l =
    let records = map g.T.AsRecord.body l.records in
    record {
      left : l.k + bytes_from (base_timestamp records) l.k (drop l.k records) ≤ bytes_from (base_timestamp records) 0 records;
      so_far : l.size ≡ measured (61 + (bytes_from (base_timestamp records) 0 records - bytes_from (base_timestamp records) l.k (drop l.k records)));
    }
