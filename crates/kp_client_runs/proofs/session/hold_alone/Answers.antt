use Rattle.std.proofs.Common.{◌∷◌, [], rules}
use Rattle.kp_client.specs.Ends.{HasEnded}
use Rattle.kp_client.specs.Service.{core_of, intake_of}
use Rattle.kp_client_runs.proofs.session.hold_alone.Goals as goal

pub returns : goal.returns
returns g c =
    let ended : HasEnded (core_of c.args.service) (intake_of c.args.service) c.in_ok-ended.ended = search rules in
    record {
      finished = c.join-finished.result.0 ∷ [];
      left = c.in_ok-records.ensures.0;
      over = record { ended = c.in_ok-ended.ended; has_ended = ended; settled = c.in_ok-records.ensures.1 };
    }
