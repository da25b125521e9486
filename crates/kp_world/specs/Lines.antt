-- The lines of a world: what happened, event by event, and then the logs and the audits.
use Rattle.std.specs.Prelude.{ℕ, List, [], ◌∷◌, ◌++◌, map, flat_map, length, unwrap_or, pos, if◌then◌else◌}
use Rattle.std.specs.List.{enumerate_from, range_with_len}
use Rattle.kp_log.specs.declared.stored.Stored.{Stored}
use Rattle.kp_log.specs.History.{History, is_under}
use Rattle.kp_rules.specs.Partitions.{partition_at}
use Rattle.kp_rules.specs.Records.{Partition, Told}
use Rattle.kp_rules.specs.Reports.{reports_to}
use Rattle.kp_world.specs.Line.{Line, Reported, Logged, LoggedOther, Audited, Flushed}
use Rattle.kp_world.specs.World.{World, Happened}

-- ---- an event

-- what was told, by sender upwards, of each in order
abbrev pub reports_in : ℕ → List Told → List Line
reports_in senders told =
    flat_map (λ s. map Reported (reports_to s told)) (range_with_len 0 senders)

abbrev pub lines_of : ℕ → Happened → List Line
lines_of senders h =
    h.answer ++ reports_in senders h.told ++ (if h.flushed then Flushed ∷ [] else [])

-- ---- logs and audits

-- this producer's records are those under the partition's ids
abbrev pub log_line : ℕ → Partition → (ℕ × Stored) → Line
log_line p t at =
    if is_under (map pos t.ids) at.1 then Logged p at.0 (unwrap_or at.1.body.value [])
    else LoggedOther p at.0

abbrev pub log_lines : List Partition → (ℕ × History) → List Line
log_lines ts x = map (log_line x.0 (partition_at x.0 ts)) (enumerate_from 0 x.1.records)

abbrev pub audit_lines : (ℕ × Partition) → List Line
audit_lines x = map (Audited x.0) (unwrap_or x.1.audit [])

-- ---- all

unfoldable pub lines : World → List Line
lines w =
    flat_map (lines_of (length w.accepted)) w.past
    ++ flat_map (log_lines w.core.partitions) (enumerate_from 0 w.logs)
    ++ flat_map audit_lines (enumerate_from 0 w.core.partitions)
