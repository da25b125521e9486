use Rattle.std.proofs.Common.{Some}
use Rattle.kp_run.proofs.RunsLemmas.{is_came, serves_here}
use Rattle.kp_run.proofs.running.run_here.Goals as goal

pub returns : goal.returns
returns g c =
    let looked_at = c.args.checked.now in
    let both = c.in_ok-both.both in
    let at = serves_here looked_at.options looked_at.plan looked_at.options.place c.own_partitions-partitions.result _ c.in_ok-broker.broker both.0
    c.requires c.own_partitions-partitions.ensures c.in_ok-broker.ensures c.in_ok-both.ensures.served in
    is_came looked_at c.args.lines.now c.came_of.result (Some both.0) both.1.accepted both.1.reports
    c.came_of.ensures.broker c.came_of.ensures.accepted c.came_of.ensures.reports c.in_ok-both.ensures.produced at
