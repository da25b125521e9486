use Rattle.kp_replay.proofs.ShownLemmas.{flush-line, flush-returns, within}
use Rattle.kp_replay.proofs.TellingLemmas.{tells-flush}
use Rattle.std.proofs.Common.{cond, eqb, sym, ap, ◌∙◌}
use Rattle.kp_rules.specs.Flush.{flush_step}
use Rattle.kp_rules.specs.Records.{quietly}
use Rattle.kp_world.specs.Line as line
use Rattle.kp_replay.proofs.world.World.flush.Goals as goal

pub invariant_of-self : goal.invariant_of-self
invariant_of-self c = within c.self.inside.core (quietly (flush_step c.self.inside.core) (tt {0})) (tells-flush c.self.inside.core) c.flush.new.self c.flush.ensures c.self.invariant

pub returns : goal.returns
returns c = flush-returns c.note.result c.args.self.now _ c.note.new.self c.self.view_is c.flushed-was_flushed.result c.flushed-was_flushed.ensures c.flush.new.self c.flush.ensures _ (c.flush_line-answer.ensures ∙ ap (λ n. cond (eqb n 0) line.Flushed line.Flushing) c.untold.ensures ∙ sym (flush-line c.self.inside.core)) c.note.ensures
