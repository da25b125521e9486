use Rattle.kp_run.specs.Served.{ServesAll}
use Rattle.kp_run.proofs.broker_thread.serve_all.Given as goal

abbrev pub invariant-loop-stream : goal.invariant-loop-stream
invariant-loop-stream l = ServesAll l.plan l.fn.broker l.broker
