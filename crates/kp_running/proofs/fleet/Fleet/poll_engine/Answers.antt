use Rattle.kp_running.proofs.FleetLemmas.{each_hears}
use Rattle.kp_running.proofs.fleet.Fleet.poll_engine.Goals as goal

pub returns-else-again-clause-registered : goal.returns-else-again-clause-registered
returns-else-again-clause-registered g c = each_hears g.S.Stream.reader c.poll_turns.new.cx c.poll_turns.new.self.lines.items c.in-Pending.ensures.registered
