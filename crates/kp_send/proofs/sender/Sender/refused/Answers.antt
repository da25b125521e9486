use Rattle.std.proofs.Common.{rules}
use Rattle.kp_send.proofs.SenderLemmas.{leaves_refused}
use Rattle.kp_send.proofs.sender.Sender.refused.Goals as goal

pub returns : goal.returns
returns c =
    leaves_refused c.args.self.now _ c.in-Some.line c.args.fault c.refused-told.result c.tell.new.tellings c.args.texts.now c.tell.new.self
    c.tell.result (search rules) (search rules) (search rules) (search rules) (search rules)
