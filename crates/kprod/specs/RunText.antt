-- What is printed of a run.
use Rattle.std.specs.Prelude.{ℕ, ◌-◌, ◌^◌, List, [], ◌++◌, length, map, min, Bool, true, false, Option, Some, None, ℤ, pos, slice_get}
use Rattle.std.specs.List.{concat, range_with_len}
use Rattle.kp_broker.specs.Broker.{Broker}
use Rattle.kp_log.specs.Log.{Log}
use Rattle.kp_rules.specs.Partitions.{partition_at}
use Rattle.kp_rules.specs.Records.{Core}
use Rattle.kp_rules.specs.declared.run.Run.{Run}
use Rattle.kp_run.specs.declared.running.Came.{Came}
use Rattle.kp_text.specs.Ends.{totals_line}
use Rattle.kp_text.specs.Lines.{audit_lines, report_lines}
use Rattle.kp_text.specs.Logs.{own_lines}

-- how many partitions have a number that is printed: all that a topic has
abbrev pub numbered : Core → ℕ
numbered core = min (length core.partitions) (2 ^ 32 - 1)

-- the texts of partitions, one after the other
abbrev pub of_each : (ℕ → List ℕ) → ℕ → List ℕ
of_each text partitions = concat (map text (range_with_len 0 partitions))

-- ---- this producer's records in the logs

-- a producer id as a log has it
abbrev pub log_id : ℕ → ℤ
log_id id = pos (min id (2 ^ 63 - 1))

abbrev pub in_log : ℕ → List ℤ → Option Log → List ℕ
in_log partition ids None = []
in_log partition ids (Some log) = own_lines partition ids log.records

abbrev pub log_at : Broker → Core → ℕ → List ℕ
log_at broker core partition =
    in_log partition (map log_id (partition_at partition core.partitions).ids) (slice_get broker.logs partition)

-- no log is printed of a broker that is elsewhere
abbrev pub logs_text : Option Broker → Core → List ℕ
logs_text None core = []
logs_text (Some broker) core = of_each (log_at broker core) (numbered core)

-- ---- the audit

abbrev pub audit_in : ℕ → Option (List Run) → List ℕ
audit_in partition None = []
audit_in partition (Some runs) = audit_lines partition runs

abbrev pub audit_at : Core → ℕ → List ℕ
audit_at core partition = audit_in partition (partition_at partition core.partitions).audit

abbrev pub audits_text : Core → List ℕ
audits_text core = of_each (audit_at core) (numbered core)

-- ---- the whole text

-- the last line alone, or what stands above it too
abbrev pub run_text : (totals : Bool) → Came → List ℕ
run_text true came = totals_line came.accepted came.reports.items
run_text false came =
    logs_text came.broker came.core
    ++ report_lines came.reports.items
    ++ audits_text came.core
    ++ totals_line came.accepted came.reports.items
