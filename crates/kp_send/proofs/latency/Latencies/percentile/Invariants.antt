use Rattle.std.proofs.Common.{◌≡◌, ◌<◌, take}
use Rattle.kp_send.specs.Latency.{count_in}
use Rattle.kp_send.proofs.latency.Latencies.percentile.Given as goal

abbrev pub invariant-loop-place : goal.invariant-loop-place
invariant-loop-place l = record {
  counted : l.counted ≡ count_in (take l.place-index l.self-inside.places.items);
  less : l.counted < l.rank;
}
