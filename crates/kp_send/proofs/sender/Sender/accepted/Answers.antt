use Rattle.std.proofs.Common.{rules, subst}
use Rattle.kp_send.specs.Ledger.{RefusedFor}
use Rattle.kp_send.specs.Sender.{Account}
use Rattle.kp_send.proofs.SenderLemmas.{accepts_lost, accepts_waits}
use Rattle.kp_send.proofs.sender.Sender.accepted.Goals.{in-Some-1, in-None-1}
use Rattle.kp_send.proofs.sender.Sender.accepted.Goals as goal

pub returns-in-Ok : goal.returns-in-Ok
returns-in-Ok c =
    accepts_waits c.args.self.now _ c.in-Some.line c.args.ticket c.args.texts.now (search rules) (search rules) (search rules)

pub returns-in-Err : goal.returns-in-Err
returns-in-Err c =
    elim c.match-told.branch [
      | in-Some-1 w ↦ rw w.self-is (accepts_lost c.args.self.now _ c.in-Some.line c.args.ticket c.in-Err.field-0-0 c.reported-told.result c.tell.new.tellings
          c.args.texts.now c.tell.new.self c.tell.result (search rules)
          (subst (λ (a : Account). RefusedFor a.book c.args.ticket c.in-Err.field-0-0) c.self.view_is c.in-Err.ensures.refused)
          (search rules) (search rules) (search rules) (search rules) (search rules))
      | in-None-1 w ↦ rw w.self-is (accepts_lost c.args.self.now _ c.in-Some.line c.args.ticket c.in-Err.field-0-0 c.reported-told.result c.tell.new.tellings
          c.args.texts.now c.tell.new.self c.tell.result (search rules)
          (subst (λ (a : Account). RefusedFor a.book c.args.ticket c.in-Err.field-0-0) c.self.view_is c.in-Err.ensures.refused)
          (search rules) (search rules) (search rules) (search rules) (search rules))
    ]
