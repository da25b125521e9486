use Rattle.kp_replay.proofs.ShownLemmas.{now-returns}
use Rattle.kp_replay.proofs.world.World.now.Goals as goal

pub returns : goal.returns
returns c = now-returns c.note.result c.args.self.now _ c.note.new.self c.self.view_is c.flushed-was_flushed.result c.flushed-was_flushed.ensures c.args.moment c.note.ensures
