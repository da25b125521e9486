use Rattle.std.proofs.Common.{◌≡◌, Ok, ap, sym, ◌∙◌, arith}
use Rattle.kp_frames.proofs.StreamLemmas.{shorter}
use Rattle.kp_broker.specs.declared.serving.Served.TheVariants.{End, HungUp}
use Rattle.kp_broker.proofs.ConnectionLemmas.{none-taken, all-taken, memory-refused, ended-taken, one-more, err-is}
use Rattle.kp_broker.proofs.broker.Broker.take_frames.Goals as goal
use Rattle.kp_broker.proofs.broker.Broker.take_frames.Goals.{In-Some}

pub loop-content-init : goal.loop-content-init
loop-content-init g c = none-taken g.C.Connection.answers g.met.C.Connection.answers_nothing c.args.node c.args.plan.now c.args.self.now c.args.splitter.now c.args.connection.now

pub returns-in_err-content : goal.returns-in_err-content
returns-in_err-content g c =
    memory-refused g.C.Connection.answers g.met.C.Connection.answers_in_order c.args.node c.args.plan.now c.args.self.now c.args.splitter.now c.args.connection.now
    c.loop-content.splitter c.loop-content.connection c.loop-content.self c.loop-content.invariant
    c.in_err-content.field-0.0 c.next_frame.new.self c.in_err-content.ensures c.from_residual.result c.from_residual.ensures.1

pub returns-in_err-take_frame : goal.returns-in_err-take_frame
returns-in_err-take_frame g c =
    let given = rw (c.in-Some.is) at c.in_ok-content.ensures in
    let next = rw (← c.as_slice.ensures.value) at given.1 in
    let refused = err-is c.from_residual-in_err-take_frame.result c.in_err-take_frame.field-0.0 c.from_residual-in_err-take_frame.ensures.1 in
    let same : c.take_frame.result ≡ c.from_residual-in_err-take_frame.result = c.in_err-take_frame.was ∙ sym refused in
    ended-taken g.C.Connection.answers g.met.C.Connection.answers_in_order c.args.node c.args.plan.now c.args.self.now c.args.splitter.now c.args.connection.now
    c.loop-content.splitter c.loop-content.connection c.loop-content.self c.loop-content.invariant c.as_slice.result.now c.next_frame.new.self next
    c.take_frame.new.connection c.take_frame.new.self c.from_residual-in_err-take_frame.result
    (λ ended. let no = sym refused ∙ ended in absurd cc)
    (rw same at c.take_frame.ensures)

pub returns-in-HungUp : goal.returns-in-HungUp
returns-in-HungUp g c =
    let given = rw (c.in-Some.is) at c.in_ok-content.ensures in
    let next = rw (← c.as_slice.ensures.value) at given.1 in
    let same : c.take_frame.result ≡ Ok HungUp = c.in_ok-take_frame.was ∙ ap Ok c.in-HungUp.is in
    ended-taken g.C.Connection.answers g.met.C.Connection.answers_in_order c.args.node c.args.plan.now c.args.self.now c.args.splitter.now c.args.connection.now
    c.loop-content.splitter c.loop-content.connection c.loop-content.self c.loop-content.invariant c.as_slice.result.now c.next_frame.new.self next
    c.take_frame.new.connection c.take_frame.new.self (Ok HungUp) (λ ended. absurd cc)
    (rw same at c.take_frame.ensures)

pub loop-content-smaller : goal.loop-content-smaller
loop-content-smaller g c =
    let given = rw c.in-Some.is at c.in_ok-content.ensures in
    omega (arith, shorter c.loop-content.splitter (c.in-Some.content.items, c.next_frame.new.self) given.0)

pub loop-content-preserved : goal.loop-content-preserved
loop-content-preserved g c =
    let given = rw (c.in-Some.is) at c.in_ok-content.ensures in
    let next = rw (← c.as_slice.ensures.value) at given.1 in
    let same : c.take_frame.result ≡ Ok End = c.in_ok-take_frame.was ∙ ap Ok c.in_default-2.is in
    one-more g.C.Connection.answers g.met.C.Connection.answers_in_order c.args.node c.args.plan.now c.args.self.now c.args.splitter.now c.args.connection.now
    c.loop-content.splitter c.loop-content.connection c.loop-content.self c.loop-content.invariant c.as_slice.result.now c.next_frame.new.self next
    c.take_frame.new.connection c.take_frame.new.self
    (rw same at c.take_frame.ensures)

pub returns : goal.returns
returns g c =
    let none = rw c.in_default.is at c.in_ok-content.ensures in
    all-taken g.C.Connection.answers g.met.C.Connection.answers_in_order c.args.node c.args.plan.now c.args.self.now c.args.splitter.now c.args.connection.now
    c.loop-content.splitter c.loop-content.connection c.loop-content.self c.loop-content.invariant none.0 c.next_frame.new.self none.1
