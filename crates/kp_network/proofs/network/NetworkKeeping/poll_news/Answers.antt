use Rattle.std.proofs.Common.{◌≡◌, ◌⊎◌, ◌+◌, ℕ, Some, None, sym, ap, subst, ◌∙◌}
use Rattle.futures.specs.declared.task.Poll.{Poll}
use Rattle.kp_network.specs.Network.{may_connect, moment_of}
use Rattle.kp_network.specs.Links.{link_at}
use Rattle.kp_network.specs.News.{IsToldNext, Tells, has_work_in, ready_of}
use Rattle.kp_network.specs.declared.network.Network.{Network}
use Rattle.kp_network.specs.declared.nodes.Nodes.{Nodes}
use Rattle.kp_network.proofs.NewsLemmas.{acts_if_tells, goes_asking_on, goes_renewing, led_told, told_on, makes_tells, tells_behind, tells_heeded, tells_led, tells_nothing}
use Rattle.kp_running.specs.declared.keeping.News.{News}
use Rattle.kp_running.specs.declared.keeping.News.TheVariants.{Connected, Dropped, Led}
use Rattle.kp_running.specs.declared.millis.Passed.{Passed}
use Rattle.kp_network.proofs.network.NetworkKeeping.poll_news.Goals as goal

pub returns-in-Some-clause-tells : goal.returns-in-Some-clause-tells
returns-in-Some-clause-tells g c =
    let S = g.row.S.Denot in
    let now = c.read-now.result in
    let a = c.args.self.now.nodes in
    let h = c.heed.new.self in
    let n = c.next_led.new.self.nodes in
    let same = ap (λ (m : Network _ _ _ _). m.nodes) c.next_led.ensures.only in
    let shown = c.read-now.ensures.shown ∙ sym (ap (λ (m : Network _ _ _ _). m.clock.shown) c.next_led.ensures.only) in
    let heeded : Tells {S = S} now a None n = tells_heeded now (has_work_in c.args.core.now) _ a h n c.heed.ensures.cluster c.heed.ensures.links same in
    let led = led_told _ c.args.self.now.told c.in-Some.partition c.in-Some.node h.cluster (sym c.in-Some.is ∙ c.next_led.ensures.led) in
    subst (λ (m : ℕ). Tells m a (Some (Led c.in-Some.partition c.in-Some.node)) n) shown
    (tells_behind now a n n (Some (Led c.in-Some.partition c.in-Some.node)) heeded
    (subst (λ (m : Nodes _ _). Tells {S = S} now m (Some (Led c.in-Some.partition c.in-Some.node)) m) (sym same) (tells_led now h c.in-Some.partition c.in-Some.node led.1)))

pub returns-in-Ready-clause-tells : goal.returns-in-Ready-clause-tells
returns-in-Ready-clause-tells g c =
    let S = g.row.S.Denot in
    let now = c.read-now.result in
    let a = c.args.self.now.nodes in
    let h = c.heed.new.self in
    let n = c.next_led.new.self.nodes in
    let b = c.poll_action.new.self.nodes in
    let same = ap (λ (m : Network _ _ _ _). m.nodes) c.next_led.ensures.only in
    let shown = c.read-now.ensures.shown ∙ sym (ap (λ (p : Passed). p.shown) c.poll_action.ensures.clock ∙ ap (λ (m : Network _ _ _ _). m.clock.shown) c.next_led.ensures.only) in
    let heeded : Tells {S = S} now a None n = tells_heeded now (has_work_in c.args.core.now) _ a h n c.heed.ensures.cluster c.heed.ensures.links same in
    subst (λ (m : ℕ). Tells m a (Some (Dropped c.in-Ready.node)) b) shown
    (tells_behind now a n b (Some (Dropped c.in-Ready.node)) heeded (acts_if_tells now (may_connect c.args.core.now n.cluster) n b (Some c.in-Ready.node) c.in-Ready.ensures.acts))

pub returns-in-Ready-poll_made-clause-tells : goal.returns-in-Ready-poll_made-clause-tells
returns-in-Ready-poll_made-clause-tells g c =
    let S = g.row.S.Denot in
    let now = c.read-now.result in
    let a = c.args.self.now.nodes in
    let h = c.heed.new.self in
    let n = c.next_led.new.self.nodes in
    let b = c.poll_action.new.self.nodes in
    let d = c.poll_made.new.self.nodes in
    let same = ap (λ (m : Network _ _ _ _). m.nodes) c.next_led.ensures.only in
    let shown = c.read-now.ensures.shown ∙ sym (ap (λ (p : Passed). p.shown) (c.poll_made.ensures.clock ∙ c.poll_action.ensures.clock) ∙ ap (λ (m : Network _ _ _ _). m.clock.shown) c.next_led.ensures.only) in
    let heeded : Tells {S = S} now a None n = tells_heeded now (has_work_in c.args.core.now) _ a h n c.heed.ensures.cluster c.heed.ensures.links same in
    let acted : Tells {S = S} now n None b = acts_if_tells now (may_connect c.args.core.now n.cluster) n b None c.in_default-poll_action.ensures.acts in
    subst (λ (m : ℕ). Tells m a (Some (Connected c.in-Ready-poll_made.node c.in-Ready-poll_made.stream)) d) shown
    (tells_behind now a n d (Some (Connected c.in-Ready-poll_made.node c.in-Ready-poll_made.stream)) heeded (tells_behind now n b d (Some (Connected c.in-Ready-poll_made.node c.in-Ready-poll_made.stream)) acted
    (makes_tells now b d (Some (c.in-Ready-poll_made.node, c.in-Ready-poll_made.stream)) c.in-Ready-poll_made.ensures.makes)))

pub returns-clause-tells : goal.returns-clause-tells
returns-clause-tells g c =
    let S = g.row.S.Denot in
    let now = c.read-now.result in
    let a = c.args.self.now.nodes in
    let h = c.heed.new.self in
    let n = c.next_led.new.self.nodes in
    let b = c.poll_action.new.self.nodes in
    let d = c.poll_made.new.self.nodes in
    let e = c.renew_question.new.self.nodes in
    let f = c.poll_question.new.self.nodes in
    let same = ap (λ (m : Network _ _ _ _). m.nodes) c.next_led.ensures.only in
    let shown = c.read-now.ensures.shown ∙ sym (ap (λ (p : Passed). p.shown) (c.poll_question.ensures.clock ∙ c.renew_question.ensures.clock ∙ c.poll_made.ensures.clock ∙ c.poll_action.ensures.clock)
    ∙ ap (λ (m : Network _ _ _ _). m.clock.shown) c.next_led.ensures.only) in
    let heeded : Tells {S = S} now a None n = tells_heeded now (has_work_in c.args.core.now) _ a h n c.heed.ensures.cluster c.heed.ensures.links same in
    let acted : Tells {S = S} now n None b = acts_if_tells now (may_connect c.args.core.now n.cluster) n b None c.in_default-poll_action.ensures.acts in
    let made : Tells {S = S} now b None d = makes_tells now b d None c.in_default-poll_made.ensures.makes in
    let renewed : Tells {S = S} now d None e = tells_nothing now d e (goes_renewing now d.cluster e.cluster c.poll_made.new.self.question c.renew_question.new.self.question c.renew_question.ensures.renews) (λ k. ap (link_at k) c.renew_question.ensures.links) in
    let heard : Tells {S = S} now e None f = tells_nothing now e f (goes_asking_on now e.cluster f.cluster c.renew_question.new.self.told c.poll_question.new.self.told c.renew_question.new.self.question c.poll_question.new.self.question c.poll_question.ensures.goes_on) (λ k. ap (link_at k) c.poll_question.ensures.links) in
    subst (λ (polled : Poll (News S)). Tells (moment_of c.poll_question.new.self) a (ready_of polled) f) (sym c.poll_question.ensures.pending)
    (subst (λ (m : ℕ). Tells {S = S} m a None f) shown
    (tells_behind now a n f None heeded (tells_behind now n b f None acted (tells_behind now b d f None made (tells_behind now d e f None renewed heard)))))

pub returns-in-Some-clause-told : goal.returns-in-Some-clause-told
returns-in-Some-clause-told g c =
    let led = led_told _ c.args.self.now.told c.in-Some.partition c.in-Some.node c.heed.new.self.cluster (sym c.in-Some.is ∙ c.next_led.ensures.led) in
    (led.0, c.in-Some.ensures.told ∙ ap (λ (n : ℕ). n + 1) led.0)

pub returns-in-Ready-clause-told : goal.returns-in-Ready-clause-told
returns-in-Ready-clause-told g c = c.poll_action.ensures.told ∙ c.in_default.ensures.told

pub returns-in-Ready-poll_made-clause-told : goal.returns-in-Ready-poll_made-clause-told
returns-in-Ready-poll_made-clause-told g c = c.poll_made.ensures.told ∙ c.poll_action.ensures.told ∙ c.in_default.ensures.told

pub returns-clause-told : goal.returns-clause-told
returns-clause-told g c =
    let before = c.renew_question.ensures.told ∙ c.poll_made.ensures.told ∙ c.poll_action.ensures.told ∙ c.in_default.ensures.told in
    let now = c.read-now.result in
    let told = told_on now c.renew_question.new.self.nodes.cluster c.poll_question.new.self.nodes.cluster c.renew_question.new.self.told c.poll_question.new.self.told c.renew_question.new.self.question c.poll_question.new.self.question c.poll_question.ensures.goes_on in
    subst (λ (polled : Poll (News g.row.S.Denot)). IsToldNext (ready_of polled) c.args.self.now.told c.poll_question.new.self.told) (sym c.poll_question.ensures.pending)
    (subst (λ (n : ℕ). (c.poll_question.new.self.told ≡ n) ⊎ (c.poll_question.new.self.told ≡ 0)) before told)
