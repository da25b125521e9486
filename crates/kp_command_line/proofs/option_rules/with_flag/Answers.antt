use Rattle.std.proofs.Common.{rules, ◌≡◌, false}
use Rattle.std.proofs.lemmas.Result.{IfOk-weaker}
use Rattle.clap.specs.Words.{rule_of}
use Rattle.kp_command_line.specs.OptionRules.{flag_rule}
use Rattle.kp_command_line.proofs.OptionRulesLemmas.{one_more}
use Rattle.kp_command_line.proofs.option_rules.with_flag.Goals as goal

pub returns : goal.returns
returns c =
    let rule : rule_of c.help-flag.result ≡ flag_rule c.args.name.now = search rules in
    let local : c.help-flag.result.global ≡ false = search rules in
    IfOk-weaker c.arg.result _ _ (λ m adds. one_more adds rule local) c.arg.ensures
