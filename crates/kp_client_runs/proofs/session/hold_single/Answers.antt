use Rattle.std.proofs.Common.{rules}
use Rattle.kp_client.specs.Brokers.{IsAt}
use Rattle.kp_client.specs.Opening.{IsOpenSingle}
use Rattle.kp_client.specs.declared.service.Service.{Service}
use Rattle.kp_client_runs.specs.Held.{WasHeld}
use Rattle.kp_client_runs.proofs.OwnLemmas.{if_ok}
use Rattle.kp_client_runs.proofs.session.hold_single.Goals as goal

pub returns : goal.returns
returns g c =
    let service : Service = c.in_ok-producer.service in
    let opened : IsOpenSingle (IsAt c.args.address c.args.settings) c.args.settings c.in_ok-producer.producer c.in_ok-producer.closer service = search rules in
    if_ok {Y = WasHeld (IsAt c.args.address c.args.settings) (record c.args.settings { senders = 1 })} c.hold_alone.result (λ served. record { service = service; begins = opened.begins; served = served }) c.hold_alone.ensures
