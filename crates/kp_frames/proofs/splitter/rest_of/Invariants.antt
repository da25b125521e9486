use Rattle.std.proofs.Common.{◌≡◌, length}
use Rattle.kp_frames.specs.Stream.{stream, is_faulty}
use Rattle.kp_frames.proofs.splitter.rest_of.Given as goal

abbrev pub invariant-loop-behind : goal.invariant-loop-behind
invariant-loop-behind l = record {
  rest : (stream l.bytes).rest ≡ (stream l.rest).rest;
  faulty : is_faulty l.bytes ≡ is_faulty l.rest;
}

abbrev pub decreases-loop-behind : goal.decreases-loop-behind
decreases-loop-behind l = length l.rest
