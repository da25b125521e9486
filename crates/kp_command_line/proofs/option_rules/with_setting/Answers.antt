use Rattle.std.proofs.Common.{rules, refl}
use Rattle.std.proofs.lemmas.Result.{IfOk-weaker}
use Rattle.kp_command_line.proofs.OptionRulesLemmas.{aliased, one_more}
use Rattle.kp_command_line.proofs.option_rules.with_setting.Goals as goal

pub returns : goal.returns
returns c =
    let named = aliased c.number.result c.in_ok-setting.setting c.args.short c.number.ensures.rule refl c.in_ok-setting.ensures in
    IfOk-weaker c.arg.result _ _ (λ m adds. one_more adds named (search rules)) c.arg.ensures
