use Rattle.std.proofs.Common.{◌≡◌, Ok, ap, sym, ◌∙◌}
use Rattle.kp_broker.specs.declared.serving.Served.TheVariants.{End, HungUp}
use Rattle.kp_broker.proofs.ConnectionLemmas.{err-is}
use Rattle.kp_broker.proofs.PieceLemmas.{piece-ended, piece-stopped, piece-taken}
use Rattle.kp_broker.proofs.broker.Broker.take_piece.Goals as goal

pub returns-in_err-take_frames : goal.returns-in_err-take_frames
returns-in_err-take_frames g c =
    let refused = err-is c.from_residual.result c.in_err-take_frames.field-0.0 c.from_residual.ensures.1 in
    let same : c.take_frames.result ≡ c.from_residual.result = c.in_err-take_frames.was ∙ sym refused in
    piece-ended c.args.node c.args.plan.now c.args.self.now c.args.splitter.now c.args.piece.now c.requires c.feed-fed.result c.feed-fed.new.self c.feed-fed.ensures.fed
    g.C.Connection.answers c.args.connection.now c.take_frames.new.splitter c.take_frames.new.connection c.take_frames.new.self
    c.from_residual.result (λ ended. let no = sym refused ∙ ended in absurd cc)
    (rw same at c.take_frames.ensures)

pub returns-in-HungUp : goal.returns-in-HungUp
returns-in-HungUp g c =
    let same : c.take_frames.result ≡ Ok HungUp = c.in_ok-take_frames.was ∙ ap Ok c.in-HungUp.is in
    piece-ended c.args.node c.args.plan.now c.args.self.now c.args.splitter.now c.args.piece.now c.requires c.feed-fed.result c.feed-fed.new.self c.feed-fed.ensures.fed
    g.C.Connection.answers c.args.connection.now c.take_frames.new.splitter c.take_frames.new.connection c.take_frames.new.self
    (Ok HungUp) (λ ended. absurd cc)
    (rw same at c.take_frames.ensures)

pub returns-in_err-fed : goal.returns-in_err-fed
returns-in_err-fed g c =
    let same : c.take_frames.result ≡ Ok End = c.in_ok-take_frames.was ∙ ap Ok c.in_default.is in
    piece-stopped g.C.Connection.answers c.args.node c.args.plan.now c.args.self.now c.args.splitter.now c.args.piece.now c.requires c.in_err-fed.field-0.0 c.feed-fed.new.self c.in_err-fed.ensures.fed
    c.args.connection.now c.take_frames.new.connection c.take_frames.new.splitter c.take_frames.new.splitter c.take_frames.new.self
    (rw same at c.take_frames.ensures) c.from_residual-in_err-fed.result c.from_residual-in_err-fed.ensures.1

pub returns : goal.returns
returns g c =
    let same : c.take_frames.result ≡ Ok End = c.in_ok-take_frames.was ∙ ap Ok c.in_default.is in
    piece-taken g.C.Connection.answers c.args.node c.args.plan.now c.args.self.now c.args.splitter.now c.args.piece.now c.in_ok-fed.field-0 c.feed-fed.new.self c.in_ok-fed.ensures.fed
    c.args.connection.now c.take_frames.new.connection c.take_frames.new.splitter c.take_frames.new.self
    (rw same at c.take_frames.ensures)
