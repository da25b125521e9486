-- The text of what is seen of a world.
use Rattle.std.specs.Prelude.{◌≡◌, ℕ, Bool, List, [], ◌∷◌, ◌++◌, flat_map, map, pos, unwrap_or, if◌then◌else◌}
use Rattle.std.specs.List.{enumerate_from}
use Rattle.kp_accum.specs.declared.config.Config.{Config}
use Rattle.kp_log.specs.declared.stored.Stored.{Stored}
use Rattle.kp_log.specs.History.{is_under}
use Rattle.kp_log.specs.Log.{Log}
use Rattle.kp_rules.specs.Partitions.{partition_at}
use Rattle.kp_rules.specs.Records.{Partition}
use Rattle.kp_world.specs.Line.{Line, Reported, Logged, LoggedOther, Audited, Flushed}
use Rattle.kp_world.specs.Text.{line_text, text}
use Rattle.kp_world.specs.World.{World}
use Rattle.kp_replay.specs.declared.happened.Happened.{Happened}
use Rattle.kp_replay.specs.Line.{lines_of}
use Rattle.kp_replay.specs.Shown.{Noted, Seen, Shows}

-- a line, and the byte that ends it
abbrev pub told : Line → List ℕ
told l = line_text l ++ 10 ∷ []

-- ---- an event

abbrev pub noted_by : Happened → Noted
noted_by h = record { answer = lines_of h.answer; reports = h.reports.items; flushed = h.flushed }

abbrev pub flushed_text : Bool → List ℕ
flushed_text flushed = if flushed then told Flushed else []

abbrev pub noted_text : Noted → List ℕ
noted_text h =
    flat_map told h.answer ++ flat_map (λ r. told (Reported r)) h.reports ++ flushed_text h.flushed

-- ---- logs and audits

-- a record of a producer that has had these ids, or another's
abbrev pub stored_line : ℕ → List ℕ → (ℕ × Stored) → Line
stored_line p ids at =
    if is_under (map pos ids) at.1 then Logged p at.0 (unwrap_or at.1.body.value [])
    else LoggedOther p at.0

abbrev pub records_text : ℕ → List ℕ → List Stored → List ℕ
records_text p ids records = flat_map (λ at. told (stored_line p ids at)) (enumerate_from 0 records)

abbrev pub log_text : List Partition → (ℕ × Log) → List ℕ
log_text ts x = records_text x.0 (partition_at x.0 ts).ids x.1.records

abbrev pub audit_text : (ℕ × Partition) → List ℕ
audit_text x = flat_map (λ r. told (Audited x.0 r)) (unwrap_or x.1.audit [])

-- ---- all

abbrev pub seen_text : Seen → List ℕ
seen_text a =
    flat_map noted_text a.past
    ++ flat_map (log_text a.core.partitions) (enumerate_from 0 a.logs)
    ++ flat_map audit_text (enumerate_from 0 a.core.partitions)

-- This is the text of the world that is seen.
abbrev pub Tells : Seen → List ℕ → Type 0
Tells a bytes = (c : Config) (w : World) → Shows c w a → bytes ≡ text w
