use Rattle.kp_polls.proofs.RunningLemmas.{run_over_stream, run_polls}
use Rattle.kp_polls.proofs.running.a_run_s_polls_are_polls.Goals as goal

pub returns : goal.returns
returns g c = record { polling = run_polls g.S.Stream.answers g.C.Clock.moments; over_stream = run_over_stream g.S.Stream.answers g.C.Clock.moments }
