use Rattle.kp_engine.proofs.TakingLemmas.{TakenSoFar}
use Rattle.kp_engine.proofs.exchange.Exchange.append_taken.Given as goal

abbrev pub invariant-loop : goal.invariant-loop
invariant-loop l = TakenSoFar l.sender l.counter l.fn.self l.self
