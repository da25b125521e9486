use Rattle.std.proofs.Common.{rules}
use Rattle.kp_send.proofs.SenderLemmas.{takes_line}
use Rattle.kp_send.proofs.sender.Sender.take.Goals as goal

pub returns-in-Some-2-clause-takes : goal.returns-in-Some-2-clause-takes
returns-in-Some-2-clause-takes c =
    takes_line c.args.self.now _ c.in-Some.lines c.next_line.new.self c.args.chunk.now c.in-Some-2.rest.now c.in-Some-2.line
    (search rules) (search rules) (search rules) (search rules)
