use Rattle.std.proofs.Common.{◌+◌, ◌-◌, ◌≤◌, map, drop}
use Rattle.kp_batch.specs.Spelling.{base_timestamp, up_to_limit}
use Rattle.kp_batch.proofs.SizeLemmas.{bytes_from}
use Rattle.kp_batch.proofs.size.room_for.Given as goal

abbrev pub invariant-loop-item : goal.invariant-loop-item
invariant-loop-item g l =
    let records = map g.T.AsRecord.body l.records in
    record {
      left : bytes_from (base_timestamp records) l.item-index (drop l.item-index records) ≤ bytes_from (base_timestamp records) 0 records;
      so_far : up_to_limit (61 + (bytes_from (base_timestamp records) 0 records - bytes_from (base_timestamp records) l.item-index (drop l.item-index records))) ≤ l.room;
    }
