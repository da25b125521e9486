use Rattle.std.proofs.Common.{◌≡◌, ℕ, List, [], ◌∷◌, length, take, Ok, Err, ap, subst, sym, ◌∙◌, arith}
use Rattle.std.proofs.lemmas.List.{length-take-le}
use Rattle.kp_broker.specs.declared.serving.Served.TheVariants.{End, HungUp}
use Rattle.kp_broker.specs.declared.serving.streams.TheConstants.{PIECE_LIMIT}
use Rattle.kp_broker.specs.Calls.Answer.{Came}
use Rattle.kp_broker.proofs.ConnectionLemmas.{err-is}
use Rattle.kp_broker.proofs.ServedLemmas.{begun, read-failed, input-ended, reads-spent, connection-ended, next-piece}
use Rattle.kp_broker.proofs.broker.Broker.serve_pieces.Goals as goal

pub loop-init : goal.loop-init
loop-init g c = record {
  room = c.requires.room;
  has = begun g.C.Connection.answers g.met.C.Connection.answers_nothing c.args.node c.args.plan.now c.args.self.now c.args.connection.now c.args.splitter.now c.requires.begins;
}

pub returns-in_err-len : goal.returns-in_err-len
returns-in_err-len g c =
    let failed = err-is c.from_residual.result c.in_err-len.field-0.0 c.from_residual.ensures.1 ∙ ap Err c.in_err-len.ensures.0 in
    read-failed g.C.Connection.answers g.met.C.Connection.answers_in_order c.args.node c.args.plan.now c.args.self.now c.args.connection.now c.loop.connection
    c.loop.splitter c.loop.counter c.loop.self c.loop.invariant.has
    c.loop-test.true c.read_piece.new.connection c.in_err-len.ensures.1 c.from_residual.result failed

pub returns-then-len-eq0 : goal.returns-then-len-eq0
returns-then-len-eq0 g c =
    let none = ap (λ n. take n c.read_piece.new.piece) c.if-len-eq0.true in
    input-ended g.C.Connection.answers g.met.C.Connection.answers_in_order c.args.node c.args.plan.now c.args.self.now c.args.connection.now c.loop.connection
    c.loop.splitter c.loop.counter c.loop.self c.loop.invariant.has
    c.loop-test.true c.read_piece.new.connection
    (subst (λ (bytes : List ℕ). g.C.Connection.answers c.loop.connection (Came bytes ∷ []) c.read_piece.new.connection) none c.in_ok-len.ensures.1)

pub returns-in_err-take_piece : goal.returns-in_err-take_piece
returns-in_err-take_piece g c =
    let len = c.in_ok-len.len in
    let buffer = c.read_piece.new.piece in
    let room : length buffer ≡ PIECE_LIMIT = c.read_piece.auto.piece ∙ c.loop.invariant.room in
    let size : length (take len buffer) ≡ len = length-take-le len buffer c.in_ok-len.ensures.0 in
    let refused = err-is c.from_residual-in_err-take_piece.result c.in_err-take_piece.field-0.0 c.from_residual-in_err-take_piece.ensures.1 in
    let answer : c.take_piece.result ≡ c.from_residual-in_err-take_piece.result = c.in_err-take_piece.was ∙ sym refused in
    connection-ended g.C.Connection.answers g.met.C.Connection.answers_in_order c.args.node c.args.plan.now c.args.self.now c.args.connection.now c.loop.connection
    c.loop.splitter c.loop.counter c.loop.self c.loop.invariant.has
    (take len buffer) c.read_piece.new.connection c.in_ok-len.ensures.1 (omega arith) (omega (arith, c.in_ok-len.ensures.0)) c.loop-test.true
    c.take_piece.new.connection c.take_piece.new.splitter c.take_piece.new.self
    c.from_residual-in_err-take_piece.result (λ ended. let no = sym refused ∙ ended in absurd cc)
    (rw answer at c.take_piece.ensures)

pub returns-in-HungUp : goal.returns-in-HungUp
returns-in-HungUp g c =
    let len = c.in_ok-len.len in
    let buffer = c.read_piece.new.piece in
    let room : length buffer ≡ PIECE_LIMIT = c.read_piece.auto.piece ∙ c.loop.invariant.room in
    let size : length (take len buffer) ≡ len = length-take-le len buffer c.in_ok-len.ensures.0 in
    let answer : c.take_piece.result ≡ Ok HungUp = c.in_ok-take_piece.was ∙ ap Ok c.in-HungUp.is in
    connection-ended g.C.Connection.answers g.met.C.Connection.answers_in_order c.args.node c.args.plan.now c.args.self.now c.args.connection.now c.loop.connection
    c.loop.splitter c.loop.counter c.loop.self c.loop.invariant.has
    (take len buffer) c.read_piece.new.connection c.in_ok-len.ensures.1 (omega arith) (omega (arith, c.in_ok-len.ensures.0)) c.loop-test.true
    c.take_piece.new.connection c.take_piece.new.splitter c.take_piece.new.self
    (Ok HungUp) (λ ended. absurd cc)
    (rw answer at c.take_piece.ensures)

pub loop-preserved : goal.loop-preserved
loop-preserved g c =
    let len = c.in_ok-len.len in
    let buffer = c.read_piece.new.piece in
    let room : length buffer ≡ PIECE_LIMIT = c.read_piece.auto.piece ∙ c.loop.invariant.room in
    let size : length (take len buffer) ≡ len = length-take-le len buffer c.in_ok-len.ensures.0 in
    let answer : c.take_piece.result ≡ Ok End = c.in_ok-take_piece.was ∙ ap Ok c.in_default.is in
    record {
      room = room;
      has = next-piece g.C.Connection.answers g.met.C.Connection.answers_in_order c.args.node c.args.plan.now c.args.self.now c.args.connection.now c.loop.connection
          c.loop.splitter c.loop.counter c.loop.self c.loop.invariant.has
          (take len buffer) c.read_piece.new.connection c.in_ok-len.ensures.1 (omega arith) (omega (arith, c.in_ok-len.ensures.0)) c.loop-test.true
          c.take_piece.new.connection c.take_piece.new.splitter c.take_piece.new.self
          (rw answer at c.take_piece.ensures);
    }

pub returns : goal.returns
returns g c =
    reads-spent g.C.Connection.answers g.met.C.Connection.answers_in_order c.args.node c.args.plan.now c.args.self.now c.args.connection.now c.loop.connection
    c.loop.splitter c.loop.counter c.loop.self c.loop.invariant.has
    (omega arith)
