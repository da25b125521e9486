use Rattle.std.proofs.Common.{rules}
use Rattle.kp_send.proofs.sender.Sender.next_record.Goals as goal

pub returns-in_ok-record-in-Some : goal.returns-in_ok-record-in-Some
returns-in_ok-record-in-Some c = (c.in-Some.line, search rules, search rules)
