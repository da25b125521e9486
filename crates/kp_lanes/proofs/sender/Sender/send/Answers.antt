use Rattle.std.proofs.Common.{ap, ◌∙◌, rules}
use Rattle.kp_lanes.specs.Gate.{outside}
use Rattle.kp_lanes.proofs.SendLemmas.{left_again, on_ok_so, if_err_so}
use Rattle.kp_lanes.proofs.sender.Sender.send.Goals as goal

pub offer-sent-requires-clause-inside : goal.offer-sent-requires-clause-inside
offer-sent-requires-clause-inside c = search rules

pub returns-clause-unknown : goal.returns-clause-unknown
returns-clause-unknown c =
    let before = c.args.self.now.seat.me.0 in
    on_ok_so _ (c.leave.ensures.view ∙ ap outside c.if-not-enter.ensures.view.1 ∙ left_again before c.args.self.now.stands.0)

pub returns-clause-other : goal.returns-clause-other
returns-clause-other c =
    let before = c.args.self.now.seat.me.0 in
    if_err_so _ _ (c.leave.ensures.view ∙ ap outside c.if-not-enter.ensures.view.1 ∙ left_again before c.args.self.now.stands.0)
