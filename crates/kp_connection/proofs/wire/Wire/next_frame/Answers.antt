use Rattle.std.proofs.Common.{subst}
use Rattle.kp_connection.specs.Wire.{Wired, Hears}
use Rattle.kp_connection.proofs.HearingLemmas.{hears}
use Rattle.kp_connection.proofs.wire.Wire.next_frame.Goals as goal

pub returns : goal.returns
returns g c =
    let w = c.self.inside in
    subst (λ (old : Wired g.row.S.Denot). Hears g.S.Stream.answers old c.map_err.result (record { stream = w.stream; kept = w.kept; held = c.next_frame.new.self })) c.self.view_is
    (hears g.S.Stream.answers g.met.S.Stream.answers_nothing _ w.stream w.kept w.held c.next_frame.new.self c.next_frame.result c.map_err.result c.next_frame.ensures c.map_err.ensures.cases)
