use Rattle.std.proofs.Common.{◌≡◌, pos, arith}
use Rattle.std.proofs.lemmas.Grind.{common_steps}
use Rattle.std.proofs.lemmas.Option.{gets}
use Rattle.kp_broker.proofs.broker.Broker.describe_partition.Goals as goal

pub returns : goal.returns
returns c =
    let leader : c.from-leader.result ≡ pos c.index.result.now = c.from-leader.ensures in
    grind (arith, common_steps, gets)
