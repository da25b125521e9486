use Rattle.kp_settings.specs.Faults.{IsLater}
use Rattle.kp_client.proofs.greeting.greet_any.Given as goal

abbrev pub invariant-loop-address : goal.invariant-loop-address
invariant-loop-address g l = IsLater l.why
