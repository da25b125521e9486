use Rattle.std.proofs.Common.{drop, ap, ◌∙◌}
use Rattle.kp_replay.specs.contracts.world.World.{the_view}
use Rattle.kp_replay.proofs.HearingLemmas.{reply-returns, reply-within}
use Rattle.kp_replay.proofs.world.World.reply.Goals as goal

pub invariant_of-self : goal.invariant_of-self
invariant_of-self c = reply-within c.self.inside.moment c.content_of-content.result.now c.on_reply-answer.result c.self.inside.core c.on_reply-answer.new.self c.on_reply-answer.ensures c.self.invariant

pub invariant_of-self-2 : goal.invariant_of-self-2
invariant_of-self-2 c = reply-within c.self.inside.moment c.content_of-content.result.now c.on_reply-answer.result c.self.inside.core c.on_reply-answer.new.self c.on_reply-answer.ensures c.self.invariant

pub returns : goal.returns
returns c =
    reply-returns c.note.result c.args.reply c.args.self.now (the_view c.self.inside) c.note.new.self c.self.view_is c.index.result.now c.requires c.index.ensures c.flushed-was_flushed.result c.flushed-was_flushed.ensures
    c.content_of-content.result.now c.on_reply-answer.result c.on_reply-answer.new.self _ (c.content_of-content.ensures ∙ ap (drop 4) c.as_slice.ensures) c.in_ok-line.ensures.memory c.on_reply-answer.ensures c.in_ok-line.ensures.line c.note.ensures
