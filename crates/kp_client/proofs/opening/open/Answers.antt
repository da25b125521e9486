use Rattle.std.proofs.Common.{refl}
use Rattle.kp_client.specs.Brokers.{IsAt}
use Rattle.kp_client.proofs.OpeningLemmas.{opened_with}
use Rattle.kp_client.proofs.opening.open.Goals as goal

pub returns-clause-opened : goal.returns-clause-opened
returns-clause-opened g c =
    opened_with (IsAt c.args.address c.args.settings) _ (record { there = refl; patience = c.patience-patience.ensures }, c.new-again.ensures)
    c.args.settings _ c.open_known.ensures.opened
