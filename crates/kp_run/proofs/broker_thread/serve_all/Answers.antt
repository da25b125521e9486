use Rattle.std.proofs.Common.{sym, subst}
use Rattle.kp_broker.specs.Broker.{Broker}
use Rattle.kp_run.specs.Served.{ServesAll}
use Rattle.kp_run.proofs.broker_thread.serve_all.Goals.{then-is_ok, else-is_ok}
use Rattle.kp_run.proofs.broker_thread.serve_all.Goals as goal

pub loop-stream-init : goal.loop-stream-init
loop-stream-init c = ServesAll.nothing

pub loop-stream-preserved : goal.loop-stream-preserved
loop-stream-preserved c =
    let P : Broker → Type 0 = λ broker. ServesAll c.args.plan.now c.args.broker broker in
    elim c.if-is_ok.branch [
      | then-is_ok w ↦ subst P (sym w.broker-is) (ServesAll.one_more c.loop-stream.broker w.serve_one.new.broker c.loop-stream.invariant w.serve_one.ensures)
      | else-is_ok w ↦ subst P (sym w.broker-is) c.loop-stream.invariant
    ]
