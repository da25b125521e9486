use Rattle.std.proofs.lemmas.Result.{IfOk-weaker}
use Rattle.kp_command_line.proofs.OptionRulesLemmas.{further}
use Rattle.kp_command_line.proofs.run_command.with_broker.Goals as goal

pub returns : goal.returns
returns c =
    let two = further c.in_ok-command.ensures c.in_ok-command-2.ensures in
    IfOk-weaker c.with_address.result _ _ (λ m h. further two h) c.with_address.ensures
