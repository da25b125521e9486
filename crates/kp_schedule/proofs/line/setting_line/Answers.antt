use Rattle.kp_schedule.proofs.EventLemmas.{not_set}
use Rattle.kp_schedule.proofs.line.setting_line.Goals as goal

pub returns-then-not-may_be_set : goal.returns-then-not-may_be_set
returns-then-not-may_be_set c =
    not_set c.in_ok-name.name c.in_ok-value.value c.args.name.now c.args.value.now c.in_ok-value.ensures.0 c.in_ok-name.ensures.1 c.in_ok-value.ensures.1
    (λ may. let yes = c.may_be_set.ensures.1 may in let no = c.if-not-may_be_set.true in cc)
