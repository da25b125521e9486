use Rattle.std.proofs.Common.{◌∙◌}
use Rattle.kp_client.proofs.OpeningLemmas.{greeted}
use Rattle.kp_client.proofs.connecting.greet_on.Goals as goal

pub returns-in-Ok-Ok-clause-greeting : goal.returns-in-Ok-Ok-clause-greeting
returns-in-Ok-Ok-clause-greeting g c =
    greeted _ c.args.names _ _ c.in_ok-hello.field-0 c.in-Ok-Ok.field-0 c.in-Ok-Ok.hello c.in-Ok-Ok._stream (c.in_ok-timed.ensures.value ∙ c.new-greeting.ensures) c.in-Ok-Ok.is
    c.in-Ok-Ok.field-0-is c.in_ok-hello.ensures
