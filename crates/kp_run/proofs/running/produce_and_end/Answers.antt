use Rattle.kp_dealing.specs.Dealing.{dealt}
use Rattle.kp_dealing.specs.Sizing.{largest}
use Rattle.kp_run.proofs.RunsLemmas.{is_produced}
use Rattle.kp_run.proofs.running.produce_and_end.Goals as goal

pub returns : goal.returns
returns g c =
    is_produced c.args.address (dealt c.args.lines.now c.args.settings.senders c.args.keyed) (largest c.args.settings.config) c.args.settings c.produce-produced.result
    c.produce-produced.ensures.lines c.produce-produced.ensures.in_order c.produce-produced.ensures.of_service
