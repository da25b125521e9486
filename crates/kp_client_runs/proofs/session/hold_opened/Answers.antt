use Rattle.std.proofs.Common.{◌≡◌, rules}
use Rattle.kp_client.specs.Ends.{HasEnded}
use Rattle.kp_client.specs.Left.{parts_in}
use Rattle.kp_client.specs.Service.{core_of, intake_of}
use Rattle.kp_lanes.specs.Intake.{lanes_of}
use Rattle.kp_client_runs.specs.Held.{FinishEach}
use Rattle.kp_client_runs.proofs.OwnLemmas.{all_of}
use Rattle.kp_client_runs.proofs.session.hold_opened.Goals as goal

pub settle-requires : goal.settle-requires
settle-requires g c =
    let its : lanes_of (parts_in c.in_ok-ended.ended).intake ≡ lanes_of (intake_of c.args.service) = search rules in
    let each : FinishEach c.args.producers.items c.in_ok-finished.field-0.items = search rules in
    all_of (lanes_of (intake_of c.args.service)) (lanes_of (parts_in c.in_ok-ended.ended).intake) c.args.producers.items
    c.in_ok-finished.field-0.items its c.requires.lanes each

pub returns : goal.returns
returns g c =
    let ended : HasEnded (core_of c.args.service) (intake_of c.args.service) c.in_ok-ended.ended = search rules in
    record {
      finished = c.in_ok-finished.field-0.items;
      left = c.in_ok-records.ensures.0;
      over = record { ended = c.in_ok-ended.ended; has_ended = ended; settled = c.in_ok-records.ensures.1 };
    }
