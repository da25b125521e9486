use Rattle.std.proofs.Common.{ap, ◌∙◌}
use Rattle.kp_log.specs.Log.{others_appended}
use Rattle.kp_replay.specs.contracts.world.World.{the_view}
use Rattle.kp_replay.proofs.OtherLemmas.{others-returns}
use Rattle.kp_replay.proofs.world.World.other.Goals as goal

pub returns : goal.returns
returns c =
    others-returns c.note.result c.args.partition c.args.count c.args.self.now (the_view c.self.inside) c.note.new.self c.self.view_is c.index_mut.result.now c.append.new.log c.requires
    c.flushed-was_flushed.result c.flushed-was_flushed.ensures c.index_mut.ensures.value (c.in_ok-append.ensures ∙ ap (others_appended c.index_mut.result.now) c.in_ok-records.ensures) c.note.ensures
