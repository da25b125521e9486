use Rattle.kp_running.specs.Fleet.{FleetPolls}
use Rattle.kp_running.proofs.FleetLemmas.{fleet_polled}
use Rattle.kp_polls.proofs.RunningLemmas.{all_polls}
use Rattle.kp_polls.proofs.running.the_polls_of_a_fleet_are_polls.Goals as goal

pub returns : goal.returns
returns g c = λ fleet o calls old new stop.
    all_polls g.S.Stream.answers g.C.Clock.moments (λ e. (fleet e).engine.exchange)
    (λ was result is. FleetPolls g.S.Stream.answers g.C.Clock.moments g.K.Keeping.limit g.K.Keeping.made (fleet was) result (fleet is))
    (λ was is result p first cs polled. fleet_polled g.S.Stream.answers g.C.Clock.moments g.S.Stream.answers first cs (fleet was) result (fleet is) polled p.once) o calls old new stop
