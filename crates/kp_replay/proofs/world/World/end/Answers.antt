use Rattle.kp_replay.proofs.ShownLemmas.{end-returns, within}
use Rattle.kp_replay.proofs.TellingLemmas.{tells-end}
use Rattle.kp_rules.specs.Closing.{end_step}
use Rattle.kp_replay.proofs.world.World.end.Goals as goal

pub invariant_of-self : goal.invariant_of-self
invariant_of-self c = within c.self.inside.core (end_step c.self.inside.core) (tells-end c.self.inside.core) c.end.new.self c.end.ensures.1 c.self.invariant

pub returns : goal.returns
returns c = end-returns c.note.result c.args.self.now _ c.note.new.self c.self.view_is c.flushed-was_flushed.result c.flushed-was_flushed.ensures c.end.new.self c.end.ensures.1 c.note.ensures
