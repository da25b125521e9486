use Rattle.std.proofs.Common.{ap, refl}
use Rattle.kp_connection.specs.Wire.{Wired}
use Rattle.kp_engine.specs.declared.engine.Line.TheVariants.{Open}
use Rattle.kp_engine.proofs.EngineLemmas.{fresh_sound}
use Rattle.kp_engine.proofs.engine.Engine.give_stream.Goals as goal

pub invariant_of-self : goal.invariant_of-self
invariant_of-self g c = record { sound = fresh_sound c.new.result.held (ap (λ (w : Wired g.row.S.Denot). w.held) c.new.ensures) }

pub returns-clause-line : goal.returns-clause-line
returns-clause-line g c = ap (λ (w : Wired g.row.S.Denot). Open w) c.new.ensures

pub returns-clause-same : goal.returns-clause-same
returns-clause-same g c = (refl, refl)
