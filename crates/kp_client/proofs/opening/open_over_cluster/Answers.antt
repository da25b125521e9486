use Rattle.kp_client.specs.Brokers.{IsOf}
use Rattle.kp_client.proofs.OpeningLemmas.{opened_with}
use Rattle.kp_client.proofs.opening.open_over_cluster.Goals as goal

pub returns-clause-opened : goal.returns-clause-opened
returns-clause-opened g c =
    opened_with (IsOf c.args.bootstrap.items c.args.settings) _ c.in_ok-brokers.ensures.of
    c.args.settings _ c.open_known.ensures.opened
