use Rattle.std.proofs.Common.{rules, ◌≡◌, false}
use Rattle.std.proofs.lemmas.Result.{IfOk-weaker}
use Rattle.clap.specs.Words.{rule_of}
use Rattle.kp_command_line.specs.Commands.{file_rule}
use Rattle.kp_command_line.proofs.OptionRulesLemmas.{one_more}
use Rattle.kp_command_line.proofs.commands.with_file.Goals as goal

pub returns : goal.returns
returns c =
    let rule : rule_of c.required.result ≡ file_rule = search rules in
    let local : c.required.result.global ≡ false = search rules in
    IfOk-weaker c.arg.result _ _ (λ m adds. one_more adds rule local) c.arg.ensures
