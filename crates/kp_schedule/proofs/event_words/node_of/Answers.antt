use Rattle.kp_schedule.proofs.DecimalLemmas.{node-decimal}
use Rattle.kp_schedule.proofs.event_words.node_of.Goals as goal

pub returns : goal.returns
returns c = rw c.ok.ensures.value (node-decimal c.args.word.now c.in_ok-number_of.field-0 c.try_from.result c.in_ok-number_of.ensures c.try_from.ensures)
