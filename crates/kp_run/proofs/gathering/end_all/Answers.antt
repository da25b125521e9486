use Rattle.std.proofs.Common.{◌≡◌, ◌∷◌, length, arith, rules}
use Rattle.std.proofs.lemmas.Grind.{common_steps}
use Rattle.kp_run.proofs.GatheredLemmas.{count_done, count_more, finished_more, heard_more, whole_more}
use Rattle.kp_run.proofs.gathering.end_all.Goals as goal

pub loop-job-preserved : goal.loop-job-preserved
loop-job-preserved c =
    let job = c.in-Some.job in
    let before = c.loop-job.job-iterator.rest.items in
    let rest = c.next.new.self.rest.items in
    let is : before ≡ job ∷ rest = c.in-Some.ensures.steps.0 in
    let old = c.loop-job.heard in
    let new = c.end.new.self in
    let more = c.in_ok-end.ensures in
    record {
      small = omega (arith, more.accepted);
      whole = whole_more job before rest c.args.jobs.items c.loop-job.invariant.whole is more.whole;
      finished = finished_more old.finished.items new.finished.items job before rest _ c.loop-job.invariant.finished more.finished is;
      reports = heard_more old.reports.items new.reports.items job before rest _ c.loop-job.invariant.reports more.reports is;
      accepted = count_more old.accepted new.accepted job before rest _ c.loop-job.invariant.accepted more.accepted is;
    }

pub returns-clause-accepted : goal.returns-clause-accepted
returns-clause-accepted c =
    let none : length c.loop-job.job-iterator.rest.items ≡ 0 = first_of (omega arith, grind (arith, common_steps), search rules) in
    count_done c.loop-job.heard.accepted c.loop-job.job-iterator.rest.items _ c.loop-job.invariant.small none c.loop-job.invariant.accepted
