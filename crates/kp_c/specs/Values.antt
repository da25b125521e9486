-- What crosses to C and back.
use Rattle.std.specs.Prelude.{ℕ, zero, suc, ℤ, pos, ◌+◌, ◌+ℤ◌, ◌==◌, not, if◌then◌else◌, List, [], ◌∷◌, ◌++◌, flat_map, Option, Some, None}
use Rattle.kp_accum.specs.declared.config.Config.{Config}
use Rattle.kp_cluster.specs.declared.action.Action.{Action}
use Rattle.kp_cluster.specs.declared.action.Action.TheVariants.{Connect, Close}
use Rattle.kp_cluster.specs.declared.config.ClusterConfig.{ClusterConfig}
use Rattle.kp_c.specs.declared.values.KpAction.{KpAction}
use Rattle.kp_c.specs.declared.values.KpConfig.{KpConfig}
use Rattle.kp_c.specs.declared.values.KpReport.{KpReport}
use Rattle.kp_c.specs.declared.values.KpReportRun.{KpReportRun}
use Rattle.kp_embed.specs.declared.target.Target.{Target}
use Rattle.kp_embed.specs.declared.target.Target.TheVariants.{Partition, Any}
use Rattle.kp_rules.specs.declared.outcome.Outcome.{Outcome}
use Rattle.kp_rules.specs.declared.outcome.Outcome.TheVariants.{Delivered, DeliveredNoOffset, Unknown, Rejected, Unsent}
use Rattle.kp_rules.specs.declared.outcome.Reason.TheVariants.{Expired, Fenced, Ended}
use Rattle.kp_rules.specs.declared.outcome.Report.{Report}

-- a producer's configuration
abbrev pub config_of : KpConfig → Config
config_of c = record {
  batch_size = c.batch_size;
  linger_ms = c.linger_ms;
  buffer_memory = c.buffer_memory;
  max_request_size = c.max_request_size;
  request_timeout_ms = c.request_timeout_ms;
  delivery_timeout_ms = c.delivery_timeout_ms;
  retry_backoff_ms = c.retry_backoff_ms;
  max_in_flight_requests_per_connection = c.max_in_flight_requests_per_connection;
  sequence_limit = c.sequence_limit;
}

-- how it reaches its cluster
abbrev pub cluster_of : KpConfig → ClusterConfig
cluster_of c = record {
  reconnect_backoff_ms = c.reconnect_backoff_ms;
  reconnect_backoff_max_ms = c.reconnect_backoff_max_ms;
  metadata_max_age_ms = c.metadata_max_age_ms;
  request_timeout_ms = c.request_timeout_ms;
  keep_to_one = not (c.keep_to_one == 0);
}

-- what is to be done, or nothing
abbrev pub told_action : Option Action → KpAction
told_action None = record { kind = 0; node = 0 }
told_action (Some (Connect node)) = record { kind = 1; node = node }
told_action (Some (Close node)) = record { kind = 2; node = node }

-- the number of an outcome
abbrev pub outcome_number : Outcome → ℕ
outcome_number (Delivered offset) = 0
outcome_number DeliveredNoOffset = 1
outcome_number Unknown = 2
outcome_number (Rejected code) = 3
outcome_number (Unsent Expired) = 4
outcome_number (Unsent Fenced) = 5
outcome_number (Unsent Ended) = 6

-- the offset of what was delivered, or the error code by which it was rejected
abbrev pub detail_of : Outcome → ℤ
detail_of (Delivered offset) = offset
detail_of DeliveredNoOffset = pos 0
detail_of Unknown = pos 0
detail_of (Rejected code) = code
detail_of (Unsent reason) = pos 0

abbrev pub told : Report → KpReport
told r = record { number = r.number; detail = detail_of r.outcome; partition = r.partition; outcome = outcome_number r.outcome }

-- ---- runs of reports

-- the first report of a run
abbrev pub first_of : KpReportRun → KpReport
first_of r = record { number = r.number; detail = r.detail; partition = r.partition; outcome = r.outcome }

-- a run of one report
abbrev pub alone : KpReport → KpReportRun
alone r = record { number = r.number; detail = r.detail; count = 1; partition = r.partition; outcome = r.outcome }

-- the detail of a report that is so many behind one with this outcome and detail: an offset goes up, an error code does not
abbrev pub detail_behind : ℕ → ℤ → ℕ → ℤ
detail_behind outcome detail k = if outcome == 0 then detail +ℤ pos k else detail

-- the report that is so many behind this one in a run
abbrev pub behind : KpReport → ℕ → KpReport
behind r k = record { number = r.number + k; detail = detail_behind r.outcome r.detail k; partition = r.partition; outcome = r.outcome }

-- so many reports in a run, from this one on
unfoldable pub reports_from : KpReport → ℕ → List KpReport
reports_from r zero = []
reports_from r (suc k) = reports_from r k ++ behind r k ∷ []

-- the reports of runs, one after the other
unfoldable pub reports_in : List KpReportRun → List KpReport
reports_in runs = flat_map (λ (r : KpReportRun). reports_from (first_of r) r.count) runs

-- Where a record is to go: a partition, or any one where it is below 0.
abbrev pub target_of : ℤ → Target
target_of (pos partition) = Partition partition
target_of other = Any
