use Rattle.std.proofs.Common.{◌≡◌, ℕ}
use Rattle.std.specs.Prelude.{All}
use Rattle.kp_lanes.specs.Intake.{lanes_of}
use Rattle.kp_client.specs.Left.{parts_in}
use Rattle.kp_client.specs.Service.{hello_of, intake_of}
use Rattle.kp_settings.specs.Settings.{record_limit}
use Rattle.kp_dealing.specs.Dealing.{dealt}
use Rattle.kp_run.specs.Jobs.{limits_in}
use Rattle.kp_run.specs.Portions.{Comes, Gathered}
use Rattle.kp_dealing.specs.Sizing.{largest}
use Rattle.kp_run.specs.Theirs.{AreOfService, AreTheirs}
use Rattle.kp_run.specs.declared.gathering.Produced.{Produced}
use Rattle.kp_run.proofs.JobsLemmas.{all_keep, all_tried, comes, if_ok, jobs_limited, jobs_numbered, jobs_of_lanes}
use Rattle.kp_run.proofs.producing.produce.Goals as goal

pub run_all-requires-after_bounds : goal.run_all-requires-after_bounds
run_all-requires-after_bounds g c κs within =
    let opened = c.in_ok-opened.ensures.opened in
    all_tried _ c.args.settings.capacity (record { partitions = (hello_of c.in_ok-opened.opened.service).partitions; max_record = record_limit c.args.settings })
    c.in_ok-jobs.jobs.items c.in_ok-opened.opened.producers.items c.in_ok-jobs.ensures.producers opened.fresh c.in_ok-jobs.ensures.idle

pub gather-requires-clause-lanes : goal.gather-requires-clause-lanes
gather-requires-clause-lanes g c =
    jobs_of_lanes (lanes_of (intake_of c.in_ok-opened.opened.service)) (lanes_of (parts_in c.in_ok-ran.ended).intake) c.in_ok-opened.opened.producers.items
    c.in_ok-jobs.jobs.items c.in_ok-ran.ran.items c.in_ok-jobs.ensures.producers c.in_ok-opened.ensures.opened.lanes c.in_ok-ran.ensures.lanes c.in_ok-ran.ensures.ran.same

pub gather-requires-clause-keeps : goal.gather-requires-clause-keeps
gather-requires-clause-keeps g c = all_keep _ c.in_ok-ran.ran.items c.in_ok-ran.ensures.ran.ran

pub gather-requires-clause-numbers : goal.gather-requires-clause-numbers
gather-requires-clause-numbers g c =
    jobs_numbered c.args.settings.senders c.in_ok-opened.opened.producers.items c.in_ok-jobs.jobs.items c.in_ok-ran.ran.items c.in_ok-jobs.ensures.producers
    c.in_ok-opened.ensures.opened.numbers c.in_ok-ran.ensures.ran.same

pub returns-clause-lines : goal.returns-clause-lines
returns-clause-lines g c =
    let opened = c.in_ok-opened.ensures.opened in
    let ps = c.in_ok-opened.opened.producers.items in
    let js = c.in_ok-jobs.jobs.items in
    let ran = c.in_ok-ran.ran.items in
    let Limited : ℕ → Type 0 = λ n. All (λ job. limits_in job ≡ record { partitions = (hello_of c.in_ok-opened.opened.service).partitions; max_record = n }) ran in
    let limited : Limited (record_limit c.args.settings) =
    jobs_limited c.args.settings.capacity (record { partitions = (hello_of c.in_ok-opened.opened.service).partitions; max_record = record_limit c.args.settings })
    ps js ran c.in_ok-jobs.ensures.producers opened.fresh c.in_ok-ran.ensures.ran.same in
    if_ok {P = λ (p : Produced). Gathered ran p.accepted p.reports.items} {Q = λ (p : Produced). Comes (dealt c.args.lines.now c.args.settings.senders c.args.keyed) (largest c.args.settings.config) p.accepted p.reports.items}
    c.gather.result (λ p gathered. comes (dealt c.args.lines.now c.args.settings.senders c.args.keyed) (hello_of c.in_ok-opened.opened.service).partitions (largest c.args.settings.config) p.accepted ran p.reports.items
    (jobs_numbered c.args.settings.senders ps js ran c.in_ok-jobs.ensures.producers opened.numbers c.in_ok-ran.ensures.ran.same)
    limited c.in_ok-ran.ensures.ran.ran gathered) c.gather.ensures.portions

pub returns-clause-of_service : goal.returns-clause-of_service
returns-clause-of_service g c =
    if_ok {P = λ (p : Produced). AreTheirs c.in_ok-ran.ended c.in_ok-ran.ran.items p.reports.items} {Q = λ (p : Produced). AreOfService c.args.address c.args.settings p.reports.items} c.gather.result
    (λ produced theirs. record {
      service = c.in_ok-opened.opened.service;
      begins = c.in_ok-opened.ensures.opened.service;
      ended = c.in_ok-ran.ended;
      has_ended = c.in_ok-ran.ensures.ended;
      jobs = c.in_ok-ran.ran.items;
      theirs = theirs;
    }) c.gather.ensures.theirs
