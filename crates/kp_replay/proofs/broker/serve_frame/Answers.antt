use Rattle.std.proofs.lemmas.Result.{IfOk-weaker}
use Rattle.kp_replay.proofs.broker.serve_frame.Goals as goal

pub returns : goal.returns
returns c = IfOk-weaker c.serve_request.result _ _ (λ x served. (c.in_ok-request.request, c.in_ok-request.ensures, served)) c.serve_request.ensures
