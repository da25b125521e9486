use Rattle.std.proofs.Common.{IfOk, rules, subst}
use Rattle.std.specs.Prelude.{Result}
use Rattle.kp_run.specs.Runs.{IsProducedBy}
use Rattle.kp_run.specs.declared.fault.RunFault.{RunFault}
use Rattle.kp_run.specs.declared.gathering.Produced.{Produced}
use Rattle.kp_run.proofs.RunsLemmas.{at_here, of_settings}
use Rattle.kp_run.proofs.running.serve_and_produce.Goals as goal

pub returns-clause-produced : goal.returns-clause-produced
returns-clause-produced g c =
    let o = c.args.checked.now.options in
    subst (λ (r : Result Produced RunFault). IfOk r (λ p. IsProducedBy o c.args.lines.now p.accepted p.reports.items)) c.in_ok-produced.was
    (of_settings o c.args.lines.now c.args.address c.in_ok-settings.settings c.in_ok-served.produced (at_here o.place c.args.address c.requires) c.in_ok-settings.ensures (search rules))
