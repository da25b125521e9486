use Rattle.kp_connection.proofs.WireLemmas.{Stops-first}
use Rattle.kp_connection.proofs.laws.frames_heard_are_the_first_of_the_stream.Goals as goal

pub returns : goal.returns
returns g c = Stops-first g.S.Stream.answers
