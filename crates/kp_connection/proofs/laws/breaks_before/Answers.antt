use Rattle.kp_connection.proofs.WireLemmas.{Breaks-before}
use Rattle.kp_connection.proofs.laws.breaks_before.Goals as goal

pub returns : goal.returns
returns g c = λ a b c2 sent heard more news xs ys. Breaks-before g.S.Stream.answers g.met.S.Stream.answers_in_order a b c2 sent heard more news xs ys
