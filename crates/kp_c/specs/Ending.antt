-- Reports, and the end of a producer.
use Rattle.std.specs.Prelude.{◌≡◌, ◌⊎◌, ℕ, List, [], ◌∷◌, ◌++◌, length, take, map, Some, None}
use Rattle.kp_c.specs.Values.{reports_in, told}
use Rattle.kp_c.specs.declared.values.KpReport.{KpReport}
use Rattle.kp_c.specs.declared.values.KpReportRun.{KpReportRun}
use Rattle.kp_embed.specs.Ending.{Calls}
use Rattle.kp_embed.specs.Producer.{Producer}
use Rattle.kp_rules.specs.Calls.{End, Fetch}
use Rattle.kp_rules.specs.declared.outcome.Report.{Report}

-- These reports were fetched, one after the other.
pub data Fetched (first : Producer) : List Report → Producer → Type 0 where
  none : Fetched first [] first
  one_more : (reports : List Report) (report : Report) (old new : Producer) → Fetched first reports old
      → Calls (Fetch 0 (Some report)) old new → Fetched first (reports ++ report ∷ []) new

-- Those that were fetched stand at the front of the room, so many; the room is full, or there was no other.
pub record Fetches (count : ℕ) (room : List KpReport) (old new : Producer) : Type 0 where
  pub reports : List Report
  pub last : Producer
  pub fetched : Fetched old reports last
  pub front : take count room ≡ map told reports
  pub none_left : ((count ≡ length room) × (new ≡ last)) ⊎ Calls (Fetch 0 None) last new

-- Those that were fetched stand at the front of the room as runs, so many; they are as many as the room has places, or there was no
-- other.
pub record FetchesRuns (count : ℕ) (room : List KpReportRun) (old new : Producer) : Type 0 where
  pub reports : List Report
  pub last : Producer
  pub fetched : Fetched old reports last
  pub front : reports_in (take count room) ≡ map told reports
  pub none_left : ((length reports ≡ length room) × (new ≡ last)) ⊎ Calls (Fetch 0 None) last new

-- It is ended, and so many records are told of.
pub record Ends (old new : Producer) : Type 0 where
  pub count : ℕ
  pub ends : Calls (End count) old new
