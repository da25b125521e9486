use Rattle.std.proofs.Common.{ℕ, List, [], ◌∷◌, take, Err, ap, subst, sym, ◌∙◌, refl, arith, length}
use Rattle.std.proofs.lemmas.Bool.{eqb-true}
use Rattle.std.proofs.lemmas.List.{nil_from_length}
use Rattle.kp_broker.specs.Calls.Answer.{Went, Write_failed}
use Rattle.kp_broker.specs.Sending.{Sends}
use Rattle.kp_frames.proofs.HeldLemmas.{from_here}
use Rattle.kp_broker.proofs.ConnectionLemmas.{err-is}
use Rattle.kp_broker.proofs.SendingLemmas.{none-sent, one-more, failed, all-sent}
use Rattle.kp_broker.proofs.serving.streams.send.Goals as goal

pub loop-rest-init : goal.loop-rest-init
loop-rest-init g c = none-sent g.C.Connection.answers g.met.C.Connection.answers_nothing c.args.connection.now c.args.bytes.now

pub returns-in_err-len : goal.returns-in_err-len
returns-in_err-len g c =
    let is = err-is c.from_residual.result c.in_err-len.field-0.0 c.from_residual.ensures.1 ∙ ap Err c.in_err-len.ensures.0 in
    subst (λ r. Sends g.C.Connection.answers c.args.connection.now c.args.bytes.now r c.write_piece.new.connection) (sym is)
    (failed g.C.Connection.answers g.met.C.Connection.answers_in_order c.args.connection.now c.loop-rest.connection c.args.bytes.now c.loop-rest.rest.now c.loop-rest.invariant
    Write_failed refl refl tt c.write_piece.new.connection c.in_err-len.ensures.1)

pub returns-then-len-eq0 : goal.returns-then-len-eq0
returns-then-len-eq0 g c =
    let none = ap (λ n. take n c.loop-rest.rest.now) c.if-len-eq0.true in
    failed g.C.Connection.answers g.met.C.Connection.answers_in_order c.args.connection.now c.loop-rest.connection c.args.bytes.now c.loop-rest.rest.now c.loop-rest.invariant
    (Went []) refl refl refl c.write_piece.new.connection
    (subst (λ (bytes : List ℕ). g.C.Connection.answers c.loop-rest.connection (Went bytes ∷ []) c.write_piece.new.connection) none c.in_ok-len.ensures.1)

pub loop-rest-preserved : goal.loop-rest-preserved
loop-rest-preserved g c =
    let len = c.in_ok-len.len in
    let rest = c.loop-rest.rest.now in
    one-more g.C.Connection.answers g.met.C.Connection.answers_in_order c.args.connection.now c.loop-rest.connection c.args.bytes.now rest c.loop-rest.invariant
    len (omega (arith, c.in_ok-len.ensures.0)) c.if-len-eq0.false c.write_piece.new.connection c.in_ok-len.ensures.1 _ (from_here rest rest len refl)

pub returns : goal.returns
returns g c =
    all-sent g.C.Connection.answers g.met.C.Connection.answers_in_order c.args.connection.now c.loop-rest.connection c.args.bytes.now c.loop-rest.rest.now c.loop-rest.invariant
    (nil_from_length c.loop-rest.rest.now (eqb-true (length c.loop-rest.rest.now) 0 (sym c.is_empty.ensures ∙ c.loop-rest-test.false)))
    c.flush.result c.flush.new.connection c.flush.ensures
