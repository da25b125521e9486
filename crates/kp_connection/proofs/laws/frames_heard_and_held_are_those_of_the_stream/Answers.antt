use Rattle.kp_connection.proofs.WireLemmas.{Goes-stream}
use Rattle.kp_connection.proofs.laws.frames_heard_and_held_are_those_of_the_stream.Goals as goal

pub returns : goal.returns
returns g c = Goes-stream g.S.Stream.answers
