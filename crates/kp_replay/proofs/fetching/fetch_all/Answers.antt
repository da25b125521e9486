use Rattle.std.proofs.Common.{◌<◌, length, ap, arith}
use Rattle.kp_rules.specs.Records.{Core}
use Rattle.kp_replay.proofs.FetchingLemmas.{length-emptied, none-left, one-emptied, one-more}
use Rattle.kp_replay.proofs.fetching.fetch_all.Goals as goal

pub fetch_sender-requires : goal.fetch_sender-requires
fetch_sender-requires c =
    omega (arith, c.loop-sender-test.true, c.senders-sender-end.ensures, ap (λ (s : Core). length s.reports) c.loop-sender.invariant.core, length-emptied c.loop-sender.sender c.args.core.now.reports)

pub loop-sender-preserved : goal.loop-sender-preserved
loop-sender-preserved c =
    let inside : c.loop-sender.sender < length c.args.core.now.reports = omega (arith, c.loop-sender-test.true, c.senders-sender-end.ensures) in
    record {
      core = one-emptied c.loop-sender.sender c.args.core.now c.loop-sender.core c.fetch_sender.new.core inside c.loop-sender.invariant.core c.in_ok-fetch_sender.ensures.fetched;
      reports = one-more c.loop-sender.sender c.args.core.now c.loop-sender.core c.loop-sender.reports.items c.fetch_sender.new.reports.items inside c.loop-sender.invariant.core c.loop-sender.invariant.reports c.in_ok-fetch_sender.ensures.reports;
    }

pub returns-clause-fetched : goal.returns-clause-fetched
returns-clause-fetched c =
    none-left c.loop-sender.sender c.args.core.now c.loop-sender.core (omega (arith, c.loop-sender-test.false, c.senders-sender-end.ensures, c.loop-sender.auto.sender-end)) c.loop-sender.invariant.core

pub returns-in_err-fetch_sender-clause-senders : goal.returns-in_err-fetch_sender-clause-senders
returns-in_err-fetch_sender-clause-senders c =
    omega (arith, c.in_err-fetch_sender.ensures.senders, ap (λ (s : Core). length s.reports) c.loop-sender.invariant.core, length-emptied c.loop-sender.sender c.args.core.now.reports)

pub returns-clause-senders : goal.returns-clause-senders
returns-clause-senders c =
    omega (arith, ap (λ (s : Core). length s.reports) c.loop-sender.invariant.core, length-emptied c.loop-sender.sender c.args.core.now.reports)
