use Rattle.std.proofs.Common.{◌≡◌, length}
use Rattle.kp_broker.specs.declared.serving.streams.TheConstants.{PIECE_LIMIT}
use Rattle.kp_broker.proofs.ServedLemmas.{HasServed}
use Rattle.kp_broker.proofs.broker.Broker.serve_pieces.Given as goal

abbrev pub invariant-loop : goal.invariant-loop
invariant-loop g l = record {
  room : length l.piece ≡ PIECE_LIMIT;
  has : HasServed g.C.Connection.answers l.node l.plan l.initial.self l.initial.connection l.connection l.splitter l.counter l.self;
}
