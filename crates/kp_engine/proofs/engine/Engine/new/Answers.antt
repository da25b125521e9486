use Rattle.std.proofs.Common.{ap}
use Rattle.kp_connection.specs.Wire.{Wired}
use Rattle.kp_engine.proofs.EngineLemmas.{fresh_sound}
use Rattle.kp_engine.proofs.engine.Engine.new.Goals as goal

pub invariant_of-result : goal.invariant_of-result
invariant_of-result g c = record { sound = fresh_sound c.new-in-Ok.result.held (ap (λ (w : Wired g.row.S.Denot). w.held) c.new-in-Ok.ensures) }

pub returns-in-Err-clause-back : goal.returns-in-Err-clause-back
returns-in-Err-clause-back g c = λ i. (c.in-Err.ensures.back.0 i, c.in-Err.ensures.back.1 i, c.args.stream, c.args.clock)
