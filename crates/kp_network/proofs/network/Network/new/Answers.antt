use Rattle.std.proofs.Common.{refl}
use Rattle.kp_network.proofs.network.Network.new.Goals as goal

pub returns-clause-told : goal.returns-clause-told
returns-clause-told g c = refl
