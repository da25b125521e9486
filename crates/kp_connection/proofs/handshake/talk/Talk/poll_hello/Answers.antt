use Rattle.kp_connection.proofs.TalkLemmas.{talks_then}
use Rattle.kp_connection.proofs.handshake.talk.Talk.poll_hello.Goals as goal

pub returns-in_ok-open-in-Opening-clause-talks : goal.returns-in_ok-open-in-Opening-clause-talks
returns-in_ok-open-in-Opening-clause-talks g c =
    talks_then g.S.Stream.answers g.met.S.Stream.answers_in_order c.args.self.now c.open.new.self c.poll_metadata.new.self c.poll_metadata.result c.in_ok-open-in-Opening.ensures.steps c.poll_metadata.ensures.talks
