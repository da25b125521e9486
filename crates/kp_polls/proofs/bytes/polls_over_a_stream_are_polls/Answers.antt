use Rattle.kp_polls.proofs.BytesLemmas.{over_a_stream}
use Rattle.kp_polls.proofs.bytes.polls_over_a_stream_are_polls.Goals as goal

pub returns : goal.returns
returns g c = over_a_stream g.S.Stream.answers g.met.S.Stream.answers_nothing g.met.S.Stream.answers_in_order
