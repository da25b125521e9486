use Rattle.std.proofs.Common.{◌≤◌, arith, rules}
use Rattle.kp_lanes.specs.Opening.{MayOpen}
use Rattle.kp_lanes.proofs.opening.open_lanes.Goals as goal

pub open_all-requires-clause-few : goal.open_all-requires-clause-few
open_all-requires-clause-few c = assumption c

pub returns-then-capacity-lt1-clause-refused : goal.returns-then-capacity-lt1-clause-refused
returns-then-capacity-lt1-clause-refused c =
    let senders : (1 ≤ c.args.senders) × (c.args.senders ≤ 64) = (assumption c, assumption c) in
    (senders, λ fits. omega (arith, c.then-capacity-lt1.either, fits.0, fits.1))

pub returns-then-partitions-lt1-clause-refused : goal.returns-then-partitions-lt1-clause-refused
returns-then-partitions-lt1-clause-refused c =
    let senders : (1 ≤ c.args.senders) × (c.args.senders ≤ 64) = (assumption c, assumption c) in
    let capacity : (1 ≤ c.args.capacity) × (c.args.capacity ≤ 65536) = (assumption c, assumption c) in
    (senders, capacity, λ fits. omega (arith, c.then-partitions-lt1.either, fits.0, fits.1))

pub returns-in_err-open_all-clause-refused : goal.returns-in_err-open_all-clause-refused
returns-in_err-open_all-clause-refused c =
    let may : MayOpen c.args.senders c.args.capacity c.args.partitions = ((assumption c, assumption c), (assumption c, assumption c), (assumption c, assumption c)) in
    search rules

pub returns-clause-opened : goal.returns-clause-opened
returns-clause-opened c = ((assumption c, assumption c), (assumption c, assumption c), (assumption c, assumption c))
