use Rattle.kp_engine.proofs.SendLemmas.{SentTo}
use Rattle.kp_engine.proofs.exchange.Exchange.send_all.Given as goal

abbrev pub invariant-loop-sender : goal.invariant-loop-sender
invariant-loop-sender l = SentTo l.sender l.fn.self l.self l.all
