use Rattle.std.proofs.Common.{rules, ◌≡◌, false}
use Rattle.std.proofs.lemmas.Result.{IfOk-weaker}
use Rattle.clap.specs.Words.{rule_of}
use Rattle.kp_command_line.specs.RunCommand.{broker_rule}
use Rattle.kp_command_line.proofs.OptionRulesLemmas.{one_more}
use Rattle.kp_command_line.proofs.run_command.with_address.Goals as goal

pub returns : goal.returns
returns c =
    let rule : rule_of c.in_ok-address.address ≡ broker_rule = search rules in
    let local : c.in_ok-address.address.global ≡ false = search rules in
    IfOk-weaker c.arg.result _ _ (λ m adds. one_more adds rule local) c.arg.ensures
