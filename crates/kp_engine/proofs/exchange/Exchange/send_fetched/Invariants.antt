use Rattle.std.proofs.Common.{length}
use Rattle.kp_engine.specs.Agreement.{waiting_of}
use Rattle.kp_engine.proofs.SendLemmas.{SentSoFar}
use Rattle.kp_engine.proofs.exchange.Exchange.send_fetched.Given as goal

abbrev pub invariant-loop-refused : goal.invariant-loop-refused
invariant-loop-refused l = SentSoFar l.sender l.fn.self l.self

abbrev pub decreases-loop-refused : goal.decreases-loop-refused
decreases-loop-refused l = length (waiting_of l.self.core l.sender)
