use Rattle.std.proofs.Common.{◌<◌, [], length, get_or, ◌∙◌, arith}
use Rattle.kp_replay.proofs.FetchingLemmas.{IsFetched, one-fetched, still-all}
use Rattle.kp_replay.proofs.fetching.fetch_sender.Goals as goal

pub loop-report-preserved : goal.loop-report-preserved
loop-report-preserved c =
    let there : c.args.sender < length c.loop-report.core.reports = omega (arith, c.requires, c.loop-report.invariant.senders) in
    let one : IsFetched c.args.sender c.loop-report.core c.next_report.new.self c.in-Some.report = one-fetched c.args.sender c.loop-report.core c.next_report.new.self c.in-Some.report there (c.next_report.ensures.0 ∙ c.in-Some.is) c.next_report.ensures.1 in
    record {
      senders = one.senders ∙ c.loop-report.invariant.senders;
      same = one.others ∙ c.loop-report.invariant.same;
      reports = still-all c.loop-report.reports.items c.push.new.self.items (get_or c.loop-report.core.reports c.args.sender []) (get_or c.next_report.new.self.reports c.args.sender []) _ c.in-Some.report one.first c.in_ok-push.ensures.items c.loop-report.invariant.reports;
    }
