use Rattle.kp_send.proofs.LatencyLemmas.{all_adjoin}
use Rattle.kp_send.proofs.latency.all_places.Goals as goal

pub returns-clause-covers : goal.returns-clause-covers
returns-clause-covers c =
    all_adjoin c.loop-next.places.items c.loop-next.next c.loop-next.invariant.covers c.in_default.not-Some
