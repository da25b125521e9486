use Rattle.kp_dealing.specs.Dealing.{dealt}
use Rattle.kp_dealing.specs.Sizing.{largest}
use Rattle.kp_run.proofs.RunsLemmas.{is_produced, of_settings}
use Rattle.kp_run.proofs.running.produce_at.Goals as goal

pub returns : goal.returns
returns g c =
    let o = c.args.options.now in
    let s = c.in_ok-settings.settings in
    of_settings o c.args.lines.now c.args.address s c.produce.result c.requires c.in_ok-settings.ensures
    (is_produced c.args.address (dealt c.args.lines.now s.senders o.keyed) (largest s.config) s c.produce.result c.produce.ensures.lines c.produce.ensures.in_order c.produce.ensures.of_service)
