use Rattle.kp_wire.proofs.TextLemmas.{reads_text, reads_no_text}
use Rattle.kp_wire.proofs.field.read_utf8.Goals as goal

pub returns-in-Ok : goal.returns-in-Ok
returns-in-Ok c = reads_text c.args.len c.args.bytes.now c.in_ok-front.front.now c.in_ok-front.rest.now c.in-Ok.text.now c.in_ok-front.ensures c.in-Ok.ensures.cases.0 c.in-Ok.ensures.cases.1

pub returns-in-Err : goal.returns-in-Err
returns-in-Err c = reads_no_text c.args.len c.args.bytes.now c.in_ok-front.front.now c.in_ok-front.rest.now c.in_ok-front.ensures c.in-Err.ensures.cases.0
