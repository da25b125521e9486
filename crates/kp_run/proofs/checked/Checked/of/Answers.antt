use Rattle.std.proofs.Common.{refl}
use Rattle.kp_run.proofs.OptionsLemmas.{checks_by}
use Rattle.kp_run.proofs.checked.Checked.of.Goals as goal

pub returns-in_err-check_topic : goal.returns-in_err-check_topic
returns-in_err-check_topic c =
    checks_by c.args.options c.from_residual.result c.in_err-check_topic.field-0.0 c.from_residual.ensures.1 c.in_err-check_topic.ensures.refused

pub returns-in_err-plan : goal.returns-in_err-plan
returns-in_err-plan c =
    checks_by c.args.options c.from_residual-in_err-plan.result c.in_err-plan.field-0.0 c.from_residual-in_err-plan.ensures.1 c.in_err-plan.ensures.refused

pub check_config-requires-clause-plan : goal.check_config-requires-clause-plan
check_config-requires-clause-plan c = (c.in_ok-plan.plan, c.in_ok-plan.ensures.fine)

pub returns-in_err-check_config : goal.returns-in_err-check_config
returns-in_err-check_config c =
    checks_by c.args.options c.from_residual-in_err-check_config.result c.in_err-check_config.field-0.0 c.from_residual-in_err-check_config.ensures.1
    c.in_err-check_config.ensures.refused

pub returns : goal.returns
returns c = record {
  same = refl;
  topic = c.in_ok-check_topic.ensures.fine;
  plan = c.in_ok-plan.ensures.fine;
  config = c.in_ok-check_config.ensures.fine;
}
