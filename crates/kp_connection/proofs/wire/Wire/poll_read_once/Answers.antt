use Rattle.std.proofs.Common.{◌≤◌, arith, subst}
use Rattle.kp_connection.specs.Wire.{Wired, Reads}
use Rattle.kp_connection.proofs.HearingLemmas.{reads_more}
use Rattle.kp_connection.proofs.wire.Wire.poll_read_once.Goals as goal

pub returns-clause-reads : goal.returns-clause-reads
returns-clause-reads g c =
    let w = c.self.inside in
    let few = c.min-most.result in
    let new : Wired g.row.S.Denot = record { stream = c.poll_feed.new.stream; kept = w.kept; held = c.poll_feed.new.held } in
    let le : few ≤ c.args.most = omega arith in
    subst (λ (old : Wired g.row.S.Denot). Reads g.S.Stream.answers c.args.most old c.poll_feed.result new) c.self.view_is
    (reads_more g.S.Stream.answers few c.args.most le (record { stream = w.stream; kept = w.kept; held = w.held }) new c.poll_feed.result (c.poll_feed.ensures.reads w.kept))
