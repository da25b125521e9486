use Rattle.std.proofs.Common.{sym, ◌∙◌}
use Rattle.kp_running.proofs.ReachesLemmas.{gives_later}
use Rattle.kp_running.proofs.running.RunningFuture.poll.Goals as goal

pub returns-then-has_moved-clause-same : goal.returns-then-has_moved-clause-same
returns-then-has_moved-clause-same g c =
    gives_later g.E.Turning.polls c.yield_now.result c.args.self.now.engine c.note_move.new.self.engine
    c.unwrap-engine.result c.poll_turn-polled.new.self (sym c.take.ensures.value ∙ c.unwrap-engine.ensures) c.note_move.ensures c.in-Pending.ensures.polls

pub returns-else-has_moved-clause-same : goal.returns-else-has_moved-clause-same
returns-else-has_moved-clause-same g c =
    gives_later g.E.Turning.polls c.poll_rest.result c.args.self.now.engine c.poll_rest.new.self.engine
    c.unwrap-engine.result c.poll_turn-polled.new.self (sym c.take.ensures.value ∙ c.unwrap-engine.ensures) c.poll_rest.ensures.engine c.in-Pending.ensures.polls
