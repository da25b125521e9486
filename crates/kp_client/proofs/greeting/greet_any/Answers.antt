use Rattle.std.proofs.Common.{subst}
use Rattle.kp_rules.specs.declared.names.Names.{Names}
use Rattle.kp_client.specs.Opening.{IsGreeting}
use Rattle.kp_client.proofs.greeting.greet_any.Goals as goal

pub returns-in-Ok-clause-greeting : goal.returns-in-Ok-clause-greeting
returns-in-Ok-clause-greeting g c = subst (λ (names : Names). IsGreeting names c.in-Ok.hello) c.in_ok-names.ensures c.in-Ok.ensures.greeting
