use Rattle.std.proofs.Common.{[]}
use Rattle.kp_publish.specs.Input.{bytes_in}
use Rattle.kp_publish.proofs.DrawingLemmas.{draws_on, still, unmoved}
use Rattle.kp_publish.proofs.publishing.Publishing.poll_input.Goals as goal

pub returns-in-Waits-clause-draws : goal.returns-in-Waits-clause-draws
returns-in-Waits-clause-draws g c = (
  [],
  still [] c.args.self.now.input c.send_piece.new.self.input c.press.new.self.input c.args.self.now.sender c.send_piece.new.self.sender c.press.new.self.sender
      c.args.texts.now c.send_piece.new.texts c.in_ok-send_piece.ensures.draws c.press.ensures.input c.press.ensures.sender,
)

pub returns-in_ok-take_in-in-Ready-clause-draws : goal.returns-in_ok-take_in-in-Ready-clause-draws
returns-in_ok-take_in-in-Ready-clause-draws g c = (
  bytes_in c.in-Ready.piece,
  draws_on [] (bytes_in c.in-Ready.piece) c.args.self.now.input c.poll_piece.new.self c.take_in.new.self c.args.self.now.sender
      c.send_piece.new.self.sender c.take_in.new.sender c.args.texts.now c.send_piece.new.texts c.send_piece.new.texts
      (unmoved [] c.args.self.now.input c.send_piece.new.self.input c.poll_piece.new.self c.args.self.now.sender c.send_piece.new.self.sender
      c.args.texts.now c.send_piece.new.texts c.in_ok-send_piece.ensures.draws c.poll_piece.ensures.rest)
      (c.in_ok-take_in-in-Ready.ensures.draws c.send_piece.new.texts),
)
