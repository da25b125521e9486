use Rattle.std.proofs.Common.{ℕ, Ok, subst}
use Rattle.futures.specs.declared.task.Poll.{Poll}
use Rattle.kp_connection.specs.Talking.{Learns}
use Rattle.kp_connection.proofs.TalkLemmas.{talks_then}
use Rattle.kp_connection.proofs.handshake.talk.Talk.poll_metadata.Goals as goal

pub returns-clause-talks : goal.returns-clause-talks
returns-clause-talks g c =
    let learned = subst (λ (p : Poll ℕ). Learns g.S.Stream.answers c.args.self.now (Ok p) c.poll_partitions.new.self) c.in-Ready.is c.in_ok-partitions.ensures.learns in
    talks_then g.S.Stream.answers g.met.S.Stream.answers_in_order c.args.self.now c.poll_partitions.new.self c.poll_producer_id.new.self c.poll_producer_id.result learned.steps c.poll_producer_id.ensures.talks
