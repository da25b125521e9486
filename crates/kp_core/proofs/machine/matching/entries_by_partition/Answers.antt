use Rattle.kp_core.proofs.MatchingLemmas.{entries_more}
use Rattle.kp_core.proofs.machine.matching.entries_by_partition.Goals as goal

pub loop-entry-preserved : goal.loop-entry-preserved
loop-entry-preserved c =
    entries_more c.put_entry.new.found.items c.args.entries.now _ c.loop-entry-test.true c.put_entry.ensures c.loop-entry.invariant
