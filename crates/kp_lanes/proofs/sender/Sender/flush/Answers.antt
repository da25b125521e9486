use Rattle.std.proofs.Common.{ap, ◌∙◌, refl}
use Rattle.kp_lanes.specs.Gate.{outside}
use Rattle.kp_lanes.proofs.SendLemmas.{left_again, on_ok_so, if_err_so, closed_not_full}
use Rattle.kp_lanes.proofs.sender.Sender.flush.Goals as goal

pub returns-then-enter-clause-unknown : goal.returns-then-enter-clause-unknown
returns-then-enter-clause-unknown c =
    let before = c.args.self.now.seat.me.0 in
    on_ok_so _ (c.leave.ensures.view ∙ ap outside c.if-enter.ensures.view.1 ∙ left_again before c.args.self.now.stands.0)

pub returns-then-enter-clause-other : goal.returns-then-enter-clause-other
returns-then-enter-clause-other c =
    let before = c.args.self.now.seat.me.0 in
    if_err_so _ _ (c.leave.ensures.view ∙ ap outside c.if-enter.ensures.view.1 ∙ left_again before c.args.self.now.stands.0)

pub returns-else-enter-clause-full : goal.returns-else-enter-clause-full
returns-else-enter-clause-full c = λ same. absurd (closed_not_full same)

pub returns-else-enter-clause-other : goal.returns-else-enter-clause-other
returns-else-enter-clause-other c = λ other. absurd (other refl)

pub returns-else-enter-clause-stays : goal.returns-else-enter-clause-stays
returns-else-enter-clause-stays c = λ shut. (refl, refl)
