use Rattle.kp_parts.proofs.DeskLemmas.{one_told}
use Rattle.kp_parts.proofs.desk.put_one.Goals as goal

pub returns : goal.returns
returns c = one_told (record { item = c.args.item.now; outcome = c.args.outcome }) c.args.lines.now.items c.index_mut.result.now c.push.new.self c.index_mut.ensures.value c.push.ensures c.requires
