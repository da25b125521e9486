use Rattle.kp_engine.proofs.exchange.Exchange.into_parts.Goals as goal

pub returns-clause-items : goal.returns-clause-items
returns-clause-items c = assumption c
