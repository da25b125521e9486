use Rattle.kp_drive.proofs.SinceLemmas.{since_carries}
use Rattle.kp_drive.proofs.laws.a_connection_carries_what_was_taken.Goals as goal

pub returns : goal.returns
returns g c = λ node first xs taken q b s. since_carries g.S.Stream.answers g.met.S.Stream.answers_nothing g.met.S.Stream.answers_in_order node first xs taken q b s
