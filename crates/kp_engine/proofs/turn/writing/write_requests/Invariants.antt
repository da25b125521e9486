use Rattle.futures.specs.Task.{Keeps}
use Rattle.kp_engine.proofs.WritingLemmas.{Written}
use Rattle.kp_engine.proofs.turn.writing.write_requests.Given as goal

abbrev pub invariant-loop : goal.invariant-loop
invariant-loop g l = record {
  so_far : Written g.S.Stream.answers l.node l.now l.counter l.fn.exchange l.fn.wire l.exchange l.wire;
  keeps : Keeps l.fn.cx l.cx;
}
