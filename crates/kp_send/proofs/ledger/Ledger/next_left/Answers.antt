use Rattle.std.proofs.Common.{◌∙◌, ap, sym}
use Rattle.kp_send.specs.Ledger.{Book}
use Rattle.kp_send.proofs.LedgerLemmas.{leaves}
use Rattle.kp_send.proofs.ledger.Ledger.next_left.Goals as goal

pub returns : goal.returns
returns c =
    let key = c.in_ok-key.field-0.now in
    let sent = c.unwrap-sent.result in (
      (key, sent),
      c.reported.ensures,
      leaves c.args.self.now.waiting c.self.inside.waiting.entries c.remove.new.self.entries key sent (ap (λ (book : Book). book.waiting) c.self.view_is)
          (sym c.unwrap-sent.ensures ∙ c.remove.ensures.value) c.remove.ensures.entries,
    )
