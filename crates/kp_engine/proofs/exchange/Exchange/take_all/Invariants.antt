use Rattle.kp_engine.proofs.AllLemmas.{TakenTo}
use Rattle.kp_engine.proofs.exchange.Exchange.take_all.Given as goal

abbrev pub invariant-loop-sender : goal.invariant-loop-sender
invariant-loop-sender l = TakenTo l.sender l.fn.self l.self l.idle
