use Rattle.kp_publish.proofs.PollLemmas.{earlier, ended}
use Rattle.kp_publish.proofs.publishing.PublishingFuture.poll.Goals as goal

pub returns-then-is_done-clause-value : goal.returns-then-is_done-clause-value
returns-then-is_done-clause-value g c =
    ended _ c.args.self.now.sender c.args.self.now.files c.in-Ok.ensures.turns.0 c.poll_turn.new.self.sender c.poll_turn.new.self.files c.end.result
    c.in-Ok.ensures.turns.1 c.if-is_done.ensures c.end.ensures

pub returns-in-Pending-clause-same : goal.returns-in-Pending-clause-same
returns-in-Pending-clause-same g c =
    earlier _ c.args.self.now.sender c.args.self.now.files c.in-Ok.ensures.turns.0 c.poll_turn.new.self.sender c.poll_turn.new.self.files
    c.in-Ok.ensures.turns.1

pub returns-in-Ready-clause-same : goal.returns-in-Ready-clause-same
returns-in-Ready-clause-same g c =
    rw c.yield_now.ensures.pending
    (earlier _ c.args.self.now.sender c.args.self.now.files c.in-Ok.ensures.turns.0 c.poll_turn.new.self.sender c.poll_turn.new.self.files
    c.in-Ok.ensures.turns.1)
