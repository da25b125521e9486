use Rattle.std.proofs.Common.{refl, ◌∙◌, []}
use Rattle.kp_publish.proofs.DrawingLemmas.{by_calls, draws_on}
use Rattle.kp_publish.proofs.GoingLemmas.{none}
use Rattle.kp_publish.proofs.publishing.Publishing.send_piece.Goals as goal

pub loop-init : goal.loop-init
loop-init g c =
    let input = c.args.self.now.input in
    let sender = c.args.self.now.sender in
    (by_calls input input sender sender c.args.texts.now c.args.texts.now refl (none sender c.args.texts.now), refl)

pub loop-preserved : goal.loop-preserved
loop-preserved g c = (
  draws_on [] [] c.args.self.now.input c.send_next.new.self.input c.give_line.new.self c.args.self.now.sender c.send_next.new.self.sender c.give_line.new.sender
      c.args.texts.now c.send_next.new.texts c.send_next.new.texts
      (draws_on [] [] c.args.self.now.input c.loop.self.input c.send_next.new.self.input c.args.self.now.sender c.loop.self.sender c.send_next.new.self.sender
      c.args.texts.now c.loop.texts c.send_next.new.texts c.loop.invariant.0
      (by_calls c.loop.self.input c.send_next.new.self.input c.loop.self.sender c.send_next.new.self.sender c.loop.texts c.send_next.new.texts
      c.in_ok-send_next.ensures.input c.in_ok-send_next.ensures.goes))
      (c.in_ok-give_line.ensures c.send_next.new.texts),
  c.in_ok-send_next.ensures.files ∙ c.loop.invariant.1,
)

pub returns-in_err-send_next-clause-files : goal.returns-in_err-send_next-clause-files
returns-in_err-send_next-clause-files g c = c.in_err-send_next.ensures.files ∙ c.loop.invariant.1

pub returns-then-eq-clause-draws : goal.returns-then-eq-clause-draws
returns-then-eq-clause-draws g c =
    draws_on [] [] c.args.self.now.input c.loop.self.input c.send_next.new.self.input c.args.self.now.sender c.loop.self.sender c.send_next.new.self.sender
    c.args.texts.now c.loop.texts c.send_next.new.texts c.loop.invariant.0
    (by_calls c.loop.self.input c.send_next.new.self.input c.loop.self.sender c.send_next.new.self.sender c.loop.texts c.send_next.new.texts
    c.in_ok-send_next.ensures.input c.in_ok-send_next.ensures.goes)

pub returns-then-eq-clause-files : goal.returns-then-eq-clause-files
returns-then-eq-clause-files g c = c.in_ok-send_next.ensures.files ∙ c.loop.invariant.1

pub returns-then-has_sent_piece-clause-draws : goal.returns-then-has_sent_piece-clause-draws
returns-then-has_sent_piece-clause-draws g c =
    draws_on [] [] c.args.self.now.input c.loop.self.input c.send_next.new.self.input c.args.self.now.sender c.loop.self.sender c.send_next.new.self.sender
    c.args.texts.now c.loop.texts c.send_next.new.texts c.loop.invariant.0
    (by_calls c.loop.self.input c.send_next.new.self.input c.loop.self.sender c.send_next.new.self.sender c.loop.texts c.send_next.new.texts
    c.in_ok-send_next.ensures.input c.in_ok-send_next.ensures.goes)

pub returns-then-has_sent_piece-clause-files : goal.returns-then-has_sent_piece-clause-files
returns-then-has_sent_piece-clause-files g c = c.in_ok-send_next.ensures.files ∙ c.loop.invariant.1

pub returns-in_err-give_line-clause-files : goal.returns-in_err-give_line-clause-files
returns-in_err-give_line-clause-files g c = c.in_ok-send_next.ensures.files ∙ c.loop.invariant.1

pub returns-clause-draws : goal.returns-clause-draws
returns-clause-draws g c = c.loop.invariant.0

pub returns-clause-files : goal.returns-clause-files
returns-clause-files g c = c.loop.invariant.1
