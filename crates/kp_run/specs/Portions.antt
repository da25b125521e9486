-- What became of the records that the senders' lanes accepted.
use Rattle.std.specs.Prelude.{◌≡◌, ℕ, ◌<◌, ◌-◌, ◌^◌, min, List, ◌++◌, length, map, slice_index_or, sum_by}
use Rattle.std.specs.List.{flat_map}
use Rattle.kp_accum.specs.declared.item.Item.{Item}
use Rattle.kp_engine.specs.Parts.{HaveReports}
use Rattle.kp_rules.specs.declared.outcome.Report.{Report}
use Rattle.kp_dealing.specs.Dealing.{Deal}
use Rattle.kp_run.specs.Jobs.{accepted_by}
use Rattle.kp_run.specs.Sending.{HaveLines}
use Rattle.kp_run.specs.declared.sender_thread.Job.{Job}

-- Of the records that a sender's lane accepted, in their order, those first have reports, and the others were not taken.
pub record Portion : Type 0 where
  pub reported : List Item
  pub left : List Item

abbrev pub whole : Portion → List Item
whole p = p.reported ++ p.left

-- how many were accepted, or the last u64
abbrev pub count_of : List Portion → ℕ
count_of portions = min (2 ^ 64 - 1) (sum_by (λ p. length (whole p)) portions)

-- So many were accepted, and these are the reports: one of each record that has one, and no other.
pub record AddUp (portions : List Portion) (accepted : ℕ) (reports : List Report) : Type 0 where
  pub counted : accepted ≡ count_of portions
  pub told : HaveReports (flat_map (λ p. p.reported) portions) reports

-- What the jobs' lanes accepted, how many that is, and the reports of it.
pub record Gathered (jobs : List Job) (accepted : ℕ) (reports : List Report) : Type 0 where
  pub portions : List Portion
  pub are : map whole portions ≡ map accepted_by jobs
  pub add_up : AddUp portions accepted reports

-- What came of the lines: each sender's lane accepted the records of its first lines, in their order, but those that are
-- larger than `most`; so many were accepted in all, and these are the reports.
pub record Comes (deal : Deal) (most accepted : ℕ) (reports : List Report) : Type 0 where
  pub partitions : ℕ
  pub portions : List Portion
  pub senders : length portions ≡ deal.senders
  pub lines : (i : ℕ) (d : Portion) → i < length portions
      → HaveLines deal (record { partitions = partitions; max_record = most }) i (whole (slice_index_or portions i d))
  pub add_up : AddUp portions accepted reports
