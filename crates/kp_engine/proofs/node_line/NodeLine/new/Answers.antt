use Rattle.std.proofs.Common.{ap, refl}
use Rattle.kp_connection.specs.Wire.{Wired}
use Rattle.kp_engine.specs.declared.engine.Line.TheVariants.{Open}
use Rattle.kp_engine.proofs.EngineLemmas.{fresh_sound}
use Rattle.kp_engine.proofs.node_line.NodeLine.new.Goals as goal

pub invariant_of-result : goal.invariant_of-result
invariant_of-result g c = record { sound = fresh_sound c.new.result.held (ap (λ (w : Wired g.row.S.Denot). w.held) c.new.ensures) }

pub returns : goal.returns
returns g c = record { its = refl; line = ap (λ (w : Wired g.row.S.Denot). Open w) c.new.ensures; strays = refl; window = refl }
