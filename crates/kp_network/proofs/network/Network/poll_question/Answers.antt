use Rattle.std.proofs.Common.{ap, subst, sym, ◌∙◌}
use Rattle.kp_network.proofs.NewsLemmas.{is_heard, is_left, waits_on}
use Rattle.kp_network.specs.News.{Hears, told_after}
use Rattle.kp_network.specs.declared.network.Network.{Network}
use Rattle.kp_network.proofs.network.Network.poll_question.Goals as goal

pub returns-in_default-clause-goes_on : goal.returns-in_default-clause-goes_on
returns-in_default-clause-goes_on g c =
    let s = c.args.self.now in
    let w = c.leave_question.new.self in
    is_left c.args.now s.nodes.cluster s.told w.nodes.cluster w.told s.question w.question (sym c.leave_question.ensures.question ∙ c.in_default.is) c.in_default.is
    (ap (λ (m : Network _ _ _ _). m.nodes.cluster) c.leave_question.ensures.only) (ap (λ (m : Network _ _ _ _). m.told) c.leave_question.ensures.only)

pub returns-in-Pending-clause-goes_on : goal.returns-in-Pending-clause-goes_on
returns-in-Pending-clause-goes_on g c =
    let s = c.args.self.now in
    let w = c.leave_question.new.self in
    waits_on c.args.now s.nodes.cluster s.told w.nodes.cluster w.told s.question c.in-Some.question c.poll_answer.new.self (sym c.leave_question.ensures.question ∙ c.in-Some.is) c.poll_answer.ensures.node
    (ap (λ (m : Network _ _ _ _). m.nodes.cluster) c.leave_question.ensures.only) (ap (λ (m : Network _ _ _ _). m.told) c.leave_question.ensures.only)

pub returns-in-Ready-clause-goes_on : goal.returns-in-Ready-clause-goes_on
returns-in-Ready-clause-goes_on g c =
    let s = c.args.self.now in
    let h = c.hear.new.self in
    is_heard c.args.now s.nodes.cluster s.told h.nodes.cluster h.told s.question c.in-Some.question h.question c.in-Ready.answer (sym c.leave_question.ensures.question ∙ c.in-Some.is)
    (subst (λ (m : Network _ _ _ _). Hears c.in-Some.question.node c.args.now c.in-Ready.answer m.nodes.cluster h.nodes.cluster) c.leave_question.ensures.only c.hear.ensures.hears)
    c.hear.ensures.question (c.hear.ensures.told ∙ ap (λ (m : Network _ _ _ _). told_after c.in-Ready.answer m.told) c.leave_question.ensures.only)
