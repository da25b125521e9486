use Rattle.kp_broker.proofs.FrameLemmas.{frame-taken, frame-lost, nothing-taken, hang_up-taken, frame-refused}
use Rattle.kp_broker.proofs.broker.Broker.take_frame.Goals as goal

pub returns-in_err-frame : goal.returns-in_err-frame
returns-in_err-frame g c =
    frame-refused g.C.Connection.answers g.met.C.Connection.answers_nothing c.args.node c.args.plan.now c.args.self.now c.args.content.now c.args.connection.now c.handle.new.self
    c.in_err-frame.field-0.0 c.from_residual.result c.from_residual.ensures.1 c.in_err-frame.ensures

pub returns-in-HangUp : goal.returns-in-HangUp
returns-in-HangUp g c =
    hang_up-taken g.C.Connection.answers g.met.C.Connection.answers_nothing c.args.node c.args.plan.now c.args.self.now c.args.content.now c.args.connection.now c.handle.new.self
    c.in_ok-frame.field-0 c.in-HangUp.is c.in_ok-frame.ensures

pub returns-in_err-send-in-Frame : goal.returns-in_err-send-in-Frame
returns-in_err-send-in-Frame g c =
    frame-lost g.C.Connection.answers g.met.C.Connection.answers_nothing c.args.node c.args.plan.now c.args.self.now c.args.content.now c.args.connection.now c.handle.new.self
    c.send.new.connection c.in-Frame.frame c.in_ok-frame.field-0 c.in-Frame.is c.in_ok-frame.ensures
    c.in_err-send-in-Frame.field-0.0 (rw c.as_slice.ensures.value at c.in_err-send-in-Frame.ensures)
    c.from_residual-in_err-send-in-Frame.result c.from_residual-in_err-send-in-Frame.ensures.1

pub returns-in_ok-send-in-Frame : goal.returns-in_ok-send-in-Frame
returns-in_ok-send-in-Frame g c =
    frame-taken g.C.Connection.answers g.met.C.Connection.answers_nothing c.args.node c.args.plan.now c.args.self.now c.args.content.now c.args.connection.now c.handle.new.self
    c.send.new.connection c.in-Frame.frame c.in_ok-frame.field-0 c.in-Frame.is c.in_ok-frame.ensures c.in_ok-send-in-Frame.field-0
    (rw c.as_slice.ensures.value at c.in_ok-send-in-Frame.ensures)

pub returns-in-Nothing : goal.returns-in-Nothing
returns-in-Nothing g c =
    nothing-taken g.C.Connection.answers g.met.C.Connection.answers_nothing c.args.node c.args.plan.now c.args.self.now c.args.content.now c.args.connection.now c.handle.new.self
    c.in_ok-frame.field-0 c.in-Nothing.is c.in_ok-frame.ensures
