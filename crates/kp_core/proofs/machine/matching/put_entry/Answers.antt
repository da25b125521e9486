use Rattle.std.proofs.Common.{◌≡◌, ◌<◌, length, pos, w32, of_z, to_z, arith, rules}
use Rattle.std.specs.Prelude.{nat_abs}
use Rattle.std.proofs.lemmas.Int.{ints}
use Rattle.kp_core.proofs.MatchingLemmas.{entry_put}
use Rattle.kp_core.proofs.machine.matching.put_entry.Goals as goal

pub returns-then-place-len : goal.returns-then-place-len
returns-then-place-len c =
    let e = c.args.entry.now in
    let p = nat_abs (to_z w32 (of_z w32 e.partition)) in
    let there : p < length c.args.found.now.items = search rules in
    let its : e.partition ≡ pos p = omega (arith, ints) in
    entry_put c.args.found.now.items p e c.index.result.now c.with-entries.result there its c.index.ensures c.with-entries.ensures
