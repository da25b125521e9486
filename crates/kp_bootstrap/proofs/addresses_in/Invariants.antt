use Rattle.std.proofs.Common.{take, length}
use Rattle.kp_bootstrap.specs.Addresses.{AreAddresses, entries_of}
use Rattle.kp_bootstrap.proofs.addresses_in.Given as goal

abbrev pub invariant-loop-entry : goal.invariant-loop-entry
invariant-loop-entry l = AreAddresses (take (length l.yielded) (entries_of l.text)) l.addresses.items
