use Rattle.kp_lanes.specs.Intake.{lanes_of}
use Rattle.kp_client.specs.Left.{parts_in}
use Rattle.kp_run.proofs.GatheredLemmas.{all_are, all_gathered, all_of_jobs, heard_among}
use Rattle.kp_run.proofs.gathering.gather.Goals as goal

pub settle-requires : goal.settle-requires
settle-requires c =
    all_of_jobs (lanes_of (parts_in c.args.ended).intake) c.in_ok-heard.heard.finished.items c.args.jobs.items c.in_ok-heard.ensures.finished c.requires.lanes

pub returns-clause-portions : goal.returns-clause-portions
returns-clause-portions c =
    let jobs = c.args.jobs.items in
    let heard = c.in_ok-heard.heard in
    let left = c.in-Ok.left in
    let all = c.in_ok-core.ensures.added in
    all_gathered jobs heard.finished.items left c.args.senders heard.accepted heard.reports.items c.add_left.new.reports.items c.order.new.reports.items
    c.in_ok-heard.ensures.finished c.requires.keeps c.in_ok-heard.ensures.whole c.requires.numbers c.in-Ok.ensures.settled
    c.in_ok-heard.ensures.accepted c.in_ok-heard.ensures.reports all c.order.ensures.same

pub returns-clause-theirs : goal.returns-clause-theirs
returns-clause-theirs c =
    let jobs = c.args.jobs.items in
    let heard = c.in_ok-heard.heard in
    let left = c.in-Ok.left in
    let all = c.in_ok-core.ensures.added in record {
      finished = heard.finished.items;
      accounts = c.in_ok-heard.ensures.finished;
      left = left;
      settled = c.in-Ok.ensures.rings;
      all = all_are jobs heard.finished.items left c.args.senders heard.reports.items c.add_left.new.reports.items c.order.new.reports.items
          c.in_ok-heard.ensures.finished c.requires.keeps c.in_ok-heard.ensures.whole c.requires.numbers c.in_ok-heard.ensures.reports all c.order.ensures.same;
    }

pub returns-clause-in_order : goal.returns-clause-in_order
returns-clause-in_order c = c.order.ensures.in_order

pub returns-clause-heard : goal.returns-clause-heard
returns-clause-heard c =
    heard_among c.args.jobs.items c.in_ok-heard.heard.reports.items _ c.add_left.new.reports.items c.order.new.reports.items
    c.in_ok-heard.ensures.reports c.in_ok-core.ensures.added c.order.ensures.same
