use Rattle.kp_polls.proofs.BytesLemmas.{goes_on_over}
use Rattle.kp_polls.proofs.bytes.all_bytes_are_of_packets_and_of_replies.Goals as goal

pub returns : goal.returns
returns g c = goes_on_over g.S.Stream.answers g.met.S.Stream.answers_nothing g.met.S.Stream.answers_in_order
