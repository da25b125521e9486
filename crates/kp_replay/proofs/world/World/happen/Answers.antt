use Rattle.kp_replay.proofs.ShownLemmas.{tick-bare, send-bare, drop-bare}
use Rattle.kp_replay.proofs.world.World.happen.Goals as goal

pub returns-in-Tick : goal.returns-in-Tick
returns-in-Tick c = rw c.in-Tick.is (tick-bare c.tick.result c.args.self.now c.tick.new.self c.tick.ensures)

pub returns-in-Send : goal.returns-in-Send
returns-in-Send c = rw c.in-Send.is (send-bare c.send.result c.args.self.now c.send.new.self c.send.ensures)

pub returns-in-Drop : goal.returns-in-Drop
returns-in-Drop c = rw c.in-Drop.is (drop-bare c.drop_connection.result c.args.self.now c.drop_connection.new.self c.drop_connection.ensures)
