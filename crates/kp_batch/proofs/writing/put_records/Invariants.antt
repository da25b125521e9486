use Rattle.std.proofs.Common.{◌≡◌, ◌≤◌, ◌++◌, map, drop}
use Rattle.std.specs.List.{flat_map, AllByRecursion}
use Rattle.kp_batch.specs.Record.{relative_record}
use Rattle.kp_batch.specs.Spelling.{relatives_from}
use Rattle.kp_batch.proofs.SizeLemmas.{bytes_from}
use Rattle.kp_batch.proofs.writing.put_records.Given as goal

abbrev pub invariant-loop-k : goal.invariant-loop-k
invariant-loop-k g l =
    let records = map g.T.AsRecord.body l.records in
    record {
      spelled : l.out.items ++ flat_map relative_record.spell (relatives_from l.base l.k (drop l.k records)) ≡ l.fn.out.items ++ flat_map relative_record.spell (relatives_from l.base 0 records);
      fits : AllByRecursion relative_record.Fits (relatives_from l.base l.k (drop l.k records)) → AllByRecursion relative_record.Fits (relatives_from l.base 0 records);
      left : bytes_from l.base l.k (drop l.k records) ≤ bytes_from l.base 0 records;
    }
