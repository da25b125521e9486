use Rattle.std.proofs.Common.{List, ℕ, subst}
use Rattle.kp_replay.specs.Packets.{IsAsked}
use Rattle.kp_replay.proofs.broker.serve.Goals as goal

pub returns : goal.returns
returns c =
    let x = c.in_ok-body.ensures in
    record {
      request = x.0;
      answer = c.in_ok-body.body;
      asked = subst (λ (bytes : List ℕ). IsAsked bytes x.0) c.as_slice-frame.ensures x.1;
      served = x.2;
      fits = c.in_ok-bytes.ensures.0;
      spelled = c.in_ok-bytes.ensures.1;
    }
