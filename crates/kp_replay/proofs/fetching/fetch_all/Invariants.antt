use Rattle.std.proofs.Common.{◌≡◌, take}
use Rattle.kp_rules.specs.Records.{Core}
use Rattle.kp_replay.specs.Fetching.{by_sender}
use Rattle.kp_replay.proofs.FetchingLemmas.{emptied}
use Rattle.kp_replay.proofs.fetching.fetch_all.Given as goal

abbrev pub invariant-loop-sender : goal.invariant-loop-sender
invariant-loop-sender l = record {
  core : ◌≡◌ {A = Core} l.core (record l.initial.core { reports = emptied l.sender l.initial.core.reports });
  reports : l.reports.items ≡ by_sender (take l.sender l.initial.core.reports);
}
