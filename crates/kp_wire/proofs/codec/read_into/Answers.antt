use Rattle.std.proofs.Common.{◌≡◌, ◌++◌, ◌∷◌, []}
use Rattle.std.proofs.lemmas.Result.{err_from_is_err_and}
use Rattle.kp_wire.proofs.ManyLemmas.{goes_on, ends, is_done}
use Rattle.kp_wire.proofs.codec.read_into.Goals as goal

pub returns-in_err-item : goal.returns-in_err-item
returns-in_err-item g c =
    let p = err_from_is_err_and c.from_residual.result c.from_residual.ensures.1 in
    rw (p.1, p.2) (ends c.in_err-item.field-0.0 (g.T.ReadField.reads c.args.after) c.loop.items.items c.args.count c.loop.counter c.loop.rest.now _ c.loop-test.true c.in_err-item.ensures c.loop.invariant)

pub loop-preserved : goal.loop-preserved
loop-preserved g c =
    let n = c.in_ok-item.item in
    let e : c.push.new.self.items ≡ c.loop.items.items ++ n ∷ [] = c.in_ok-push.ensures.items in
    rw e (goes_on (g.T.ReadField.reads c.args.after) c.loop.items.items c.args.count c.loop.counter c.loop.rest.now n c.in_ok-item.behind.now _ c.loop-test.true c.in_ok-item.ensures c.loop.invariant)

pub returns : goal.returns
returns g c = is_done (g.T.ReadField.reads c.args.after) c.loop.items.items c.args.count c.loop.counter c.loop.rest.now _ c.loop-test.false c.loop.invariant
