use Rattle.std.proofs.Common.{ap, sym, ◌∙◌}
use Rattle.std.specs.Prelude.{is_some}
use Rattle.kp_send.specs.Ledger.{Book, key_of}
use Rattle.kp_send.proofs.LedgerLemmas.{enters, has, lacks, put_back}
use Rattle.kp_send.proofs.ledger.Ledger.sent.Goals as goal

pub returns-in-Ok-None-clause-entered : goal.returns-in-Ok-None-clause-entered
returns-in-Ok-None-clause-entered c =
    enters c.args.self.now.waiting c.self.inside.waiting.entries c.insert.new.self.entries (key_of c.args.ticket) c.args.line c.in-Ok-None.field-0
    (ap (λ (book : Book). book.waiting) c.self.view_is) c.in-Ok-None.field-0-is c.in-Ok-None.ensures.entries

pub returns-in-Ok-None-clause-new : goal.returns-in-Ok-None-clause-new
returns-in-Ok-None-clause-new c =
    lacks c.args.self.now.waiting c.self.inside.waiting.entries (key_of c.args.ticket) (ap (λ (book : Book). book.waiting) c.self.view_is)
    (sym c.in-Ok-None.field-0-is ∙ c.in-Ok-None.ensures.old)

pub returns-in-Ok-Some-insert-clause-refused : goal.returns-in-Ok-Some-insert-clause-refused
returns-in-Ok-Some-insert-clause-refused c =
    has c.args.self.now.waiting c.self.inside.waiting.entries (key_of c.args.ticket) (ap (λ (book : Book). book.waiting) c.self.view_is)
    (ap is_some (sym c.in-Ok-Some.field-0-is ∙ c.in-Ok-Some.ensures.old))

pub returns-in-Ok-Some-insert-clause-unchanged : goal.returns-in-Ok-Some-insert-clause-unchanged
returns-in-Ok-Some-insert-clause-unchanged c =
    put_back c.args.self.now.waiting c.self.inside.waiting.entries c.insert.new.self.entries c.insert-in-Ok-Some.new.self.entries
    (key_of c.args.ticket) c.args.line c.in-Ok-Some.before c.in-Ok-Some-insert.line c.in-Ok-Some.field-0 c.in-Ok-Some-insert.field-0
    (ap (λ (book : Book). book.waiting) c.self.view_is) c.in-Ok-Some.field-0-is c.in-Ok-Some.ensures.old c.in-Ok-Some.ensures.entries
    c.in-Ok-Some-insert.field-0-is c.in-Ok-Some-insert.ensures.entries
