use Rattle.kp_broker.specs.Calls.{came, gone}
use Rattle.kp_run.proofs.broker_thread.serve_one.Goals as goal

pub returns : goal.returns
returns c = record {
  read = came c.serve.ensures.xs;
  written = gone c.serve.ensures.xs;
  ending = c.serve.result;
  serves = c.serve.ensures.served;
}
