use Rattle.std.proofs.Common.{◌≡◌, List, [], length}
use Rattle.futures.specs.Task.{Keeps}
use Rattle.kp_connection.specs.Answers.{Answer}
use Rattle.kp_connection.specs.Wire.{Goes}
use Rattle.kp_connection.proofs.wire.Wire.poll_write_all.Given as goal

abbrev pub invariant-loop-self : goal.invariant-loop-self
invariant-loop-self g l = record {
  goes : (xs : List Answer) × Goes g.S.Stream.answers l.fn.self [] [] xs l.self;
  held : l.self.held ≡ l.fn.self.held;
  keeps : Keeps l.fn.cx l.cx;
}

abbrev pub decreases-loop-self : goal.decreases-loop-self
decreases-loop-self g l = length l.self.kept
