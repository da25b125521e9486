use Rattle.kp_connection.proofs.WireLemmas.{Stops-then}
use Rattle.kp_connection.proofs.laws.stops_behind.Goals as goal

pub returns : goal.returns
returns g c = λ a b c2 sent heard more news xs ys. Stops-then g.S.Stream.answers g.met.S.Stream.answers_in_order a b c2 sent heard more news xs ys
