use Rattle.std.proofs.Common.{◌≡◌, replicate, take}
use Rattle.kp_core.specs.declared.machine.matching.Entry.TheVariants.{Missing}
use Rattle.kp_core.specs.Matching.{AreEntries}
use Rattle.kp_core.proofs.machine.matching.entries_by_partition.Given as goal

abbrev pub invariant-loop : goal.invariant-loop
invariant-loop l = l.found.items ≡ replicate l.counter Missing

abbrev pub invariant-loop-entry : goal.invariant-loop-entry
invariant-loop-entry l = AreEntries l.partitions (take l.entry-index l.entries) l.found.items
