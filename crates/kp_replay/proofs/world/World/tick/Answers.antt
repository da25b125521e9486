use Rattle.kp_replay.proofs.ShownLemmas.{tick-returns, within}
use Rattle.kp_replay.proofs.TellingLemmas.{tells-tick}
use Rattle.kp_rules.specs.Tick.{tick_step}
use Rattle.kp_replay.proofs.world.World.tick.Goals as goal

pub invariant_of-self : goal.invariant_of-self
invariant_of-self c = within c.self.inside.core (tick_step c.args.node c.self.inside.moment c.self.inside.core) (tells-tick c.args.node c.self.inside.moment c.self.inside.core) c.tick-ticked.new.self c.tick-ticked.ensures.1 c.self.invariant

pub returns : goal.returns
returns c = tick-returns c.note.result c.args.self.now _ c.note.new.self c.self.view_is c.flushed-was_flushed.result c.flushed-was_flushed.ensures c.args.node c.tick-ticked.new.self c.tick-ticked.result c.tick-ticked.ensures.0 c.tick-ticked.ensures.1 _ c.reconnect_line.ensures c.note.ensures
