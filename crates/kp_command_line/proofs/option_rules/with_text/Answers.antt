use Rattle.std.proofs.lemmas.Result.{IfOk-weaker}
use Rattle.kp_command_line.proofs.OptionRulesLemmas.{one_more}
use Rattle.kp_command_line.proofs.option_rules.with_text.Goals as goal

pub returns : goal.returns
returns c = IfOk-weaker c.arg.result _ _ (λ m adds. one_more adds c.text.ensures.rule c.text.ensures.local) c.arg.ensures
