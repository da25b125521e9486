use Rattle.std.proofs.Common.{refl}
use Rattle.kp_client.proofs.left.Left.new.Goals as goal

pub returns : goal.returns
returns c = refl
