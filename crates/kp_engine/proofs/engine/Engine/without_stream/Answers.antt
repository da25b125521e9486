use Rattle.std.proofs.Common.{refl}
use Rattle.kp_engine.proofs.engine.Engine.without_stream.Goals as goal

pub returns-in-Ok-clause-line : goal.returns-in-Ok-clause-line
returns-in-Ok-clause-line g c = refl
