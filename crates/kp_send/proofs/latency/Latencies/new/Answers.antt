use Rattle.kp_send.proofs.LatencyLemmas.{whole_at_first}
use Rattle.kp_send.proofs.latency.Latencies.new.Goals as goal

pub invariant_of-result : goal.invariant_of-result
invariant_of-result c = whole_at_first c.in_ok-all_places.field-0.items c.in_ok-all_places.ensures.covers c.in_ok-all_places.ensures.none
