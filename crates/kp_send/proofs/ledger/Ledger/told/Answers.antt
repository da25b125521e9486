use Rattle.std.proofs.Common.{◌∙◌, ap}
use Rattle.kp_send.specs.Ledger.{Book}
use Rattle.kp_send.proofs.LedgerLemmas.{lacks, leaves}
use Rattle.kp_send.proofs.ledger.Ledger.told.Goals as goal

pub returns-in_err-sent-clause-told : goal.returns-in_err-sent-clause-told
returns-in_err-sent-clause-told c =
    let report = c.args.report.now in
    let same = ap (λ (book : Book). book.waiting) c.self.view_is in
    rw c.from_residual.ensures (
      lacks c.args.self.now.waiting c.self.inside.waiting.entries (report.partition, report.number) same c.in_err-sent.ensures.value,
      c.in_err-sent.ensures.unchanged ∙ same,
    )

pub returns-clause-told : goal.returns-clause-told
returns-clause-told c =
    let report = c.args.report.now in
    let same = ap (λ (book : Book). book.waiting) c.self.view_is in (
      c.in_ok-sent.sent,
      c.reported.ensures,
      leaves c.args.self.now.waiting c.self.inside.waiting.entries c.remove.new.self.entries (report.partition, report.number) c.in_ok-sent.sent same
          c.in_ok-sent.ensures.value c.in_ok-sent.ensures.entries,
    )
