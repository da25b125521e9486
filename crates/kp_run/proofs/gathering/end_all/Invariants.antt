use Rattle.std.proofs.Common.{◌≡◌, ◌≤◌, ◌+◌, ◌-◌, ◌^◌, ◌++◌, false, map}
use Rattle.std.specs.Prelude.{All, min, sum_by}
use Rattle.std.specs.List.{flat_map}
use Rattle.kp_run.specs.Gathered.{account_in, account_of, heard_by}
use Rattle.kp_run.proofs.gathering.end_all.Given as goal

abbrev pub invariant-loop-job : goal.invariant-loop-job
invariant-loop-job l = record {
  small : l.heard.accepted ≤ 2 ^ 64 - 1;
  whole : All (λ job. job.has_lost ≡ false) l.job-iterator.rest.items → All (λ job. job.has_lost ≡ false) l.fn.jobs.items;
  finished : map account_of l.heard.finished.items ++ map account_in l.job-iterator.rest.items ≡ map account_in l.fn.jobs.items;
  reports : l.heard.reports.items ++ flat_map heard_by l.job-iterator.rest.items ≡ flat_map heard_by l.fn.jobs.items;
  accepted : min (l.heard.accepted + sum_by (λ job. job.accepted) l.job-iterator.rest.items) (2 ^ 64 - 1)
      ≡ min (sum_by (λ job. job.accepted) l.fn.jobs.items) (2 ^ 64 - 1);
}
