use Rattle.std.proofs.Common.{◌≡◌, List, ◌++◌}
use Rattle.std.specs.Prelude.{All}
use Rattle.kp_send.specs.declared.latency.Place.{Place}
use Rattle.kp_send.specs.Latency.{Adjoin}
use Rattle.kp_send.proofs.LatencyLemmas.{AdjoinAt, left_of}
use Rattle.kp_send.proofs.latency.all_places.Given as goal

abbrev pub invariant-loop-next : goal.invariant-loop-next
invariant-loop-next l = record {
  covers : (more : List Place) → AdjoinAt l.next more → Adjoin 0 (l.places.items ++ more);
  none : All (λ place. place.count ≡ 0) l.places.items;
}

abbrev pub decreases-loop-next : goal.decreases-loop-next
decreases-loop-next l = left_of l.next
