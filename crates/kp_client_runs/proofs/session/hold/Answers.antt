use Rattle.std.proofs.Common.{subst}
use Rattle.std.specs.Prelude.{Result, IfOk}
use Rattle.kp_client.specs.Opening.{IsOpen}
use Rattle.kp_client.specs.declared.opening.Opened.{Opened}
use Rattle.kp_settings.specs.declared.fault.OpenFault.{OpenFault}
use Rattle.kp_client_runs.specs.Held.{AreNamed, WasHeld, WasServed}
use Rattle.kp_client_runs.proofs.OwnLemmas.{if_ok}
use Rattle.kp_client_runs.proofs.session.hold.Goals as goal

pub hold_opened-requires-clause-lanes : goal.hold_opened-requires-clause-lanes
hold_opened-requires-clause-lanes g c = λ lifetimes lives.
    (subst (λ (r : Result Opened OpenFault). IfOk r (IsOpen (AreNamed c.args.script.over c.args.script.settings) c.args.script.settings)) c.in_ok-producers.ensures c.open_over.ensures).lanes

pub returns : goal.returns
returns g c =
    let opened : IsOpen (AreNamed c.args.script.over c.args.script.settings) c.args.script.settings c.in_ok-producers.field-0 =
    subst (λ (r : Result Opened OpenFault). IfOk r (IsOpen (AreNamed c.args.script.over c.args.script.settings) c.args.script.settings)) c.in_ok-producers.ensures c.open_over.ensures in
    if_ok {X = WasServed c.in_ok-producers.field-0.service} {Y = WasHeld (AreNamed c.args.script.over c.args.script.settings) c.args.script.settings} c.hold_opened.result
    (λ served. record { service = c.in_ok-producers.field-0.service; begins = opened.service; served = served }) c.hold_opened.ensures
