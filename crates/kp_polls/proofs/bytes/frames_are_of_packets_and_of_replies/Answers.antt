use Rattle.kp_polls.proofs.BytesLemmas.{goes_over}
use Rattle.kp_polls.proofs.bytes.frames_are_of_packets_and_of_replies.Goals as goal

pub returns : goal.returns
returns g c = goes_over g.S.Stream.answers g.met.S.Stream.answers_nothing g.met.S.Stream.answers_in_order
