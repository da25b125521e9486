use Rattle.kp_connection.proofs.WireLemmas.{Goes-then}
use Rattle.kp_connection.proofs.laws.stretches_join.Goals as goal

pub returns : goal.returns
returns g c = λ a b c2 sent heard more news xs ys. Goes-then g.S.Stream.answers g.met.S.Stream.answers_in_order a b c2 sent heard more news xs ys
