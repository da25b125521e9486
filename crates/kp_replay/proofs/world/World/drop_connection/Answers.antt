use Rattle.kp_replay.proofs.ShownLemmas.{drop-returns, within}
use Rattle.kp_replay.proofs.TellingLemmas.{tells-disconnect}
use Rattle.kp_rules.specs.Dropping.{disconnect_step}
use Rattle.kp_rules.specs.Records.{quietly}
use Rattle.kp_replay.proofs.world.World.drop_connection.Goals as goal

pub invariant_of-self : goal.invariant_of-self
invariant_of-self c = within c.self.inside.core (quietly (disconnect_step c.args.node c.self.inside.moment c.self.inside.core) (tt {0})) (tells-disconnect c.args.node c.self.inside.moment c.self.inside.core) c.on_disconnect.new.self c.on_disconnect.ensures c.self.invariant

pub returns : goal.returns
returns c = drop-returns c.note.result c.args.self.now _ c.note.new.self c.self.view_is c.flushed-was_flushed.result c.flushed-was_flushed.ensures c.args.node c.on_disconnect.new.self c.on_disconnect.ensures c.note.ensures
