use Rattle.kp_replay.proofs.ShownLemmas.{close-returns, within}
use Rattle.kp_replay.proofs.TellingLemmas.{tells-close}
use Rattle.kp_rules.specs.Closing.{close_step}
use Rattle.kp_rules.specs.Records.{quietly}
use Rattle.kp_replay.proofs.world.World.close.Goals as goal

pub invariant_of-self : goal.invariant_of-self
invariant_of-self c = within c.self.inside.core (quietly (close_step c.self.inside.core) (tt {0})) (tells-close c.self.inside.core) c.close.new.self c.close.ensures c.self.invariant

pub returns : goal.returns
returns c = close-returns c.note.result c.args.self.now _ c.note.new.self c.self.view_is c.flushed-was_flushed.result c.flushed-was_flushed.ensures c.close.new.self c.close.ensures c.note.ensures
