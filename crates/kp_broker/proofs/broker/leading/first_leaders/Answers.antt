use Rattle.std.proofs.Common.{◌≡◌, ◌++◌, ◌∷◌, [], arith, rules}
use Rattle.std.proofs.lemmas.List.FromFn.{map-range_with_len_more}
use Rattle.kp_broker.specs.Broker.{first_leader}
use Rattle.kp_broker.proofs.broker.leading.first_leaders.Goals as goal

pub loop-partition-preserved : goal.loop-partition-preserved
loop-partition-preserved c =
    let k = c.loop-partition.partition in
    let more = map-range_with_len_more (first_leader c.args.ports.now) 0 k k (omega arith) in
    let pushed : c.push.new.self.items ≡ c.loop-partition.leaders.items ++ first_leader c.args.ports.now k ∷ [] = search rules in
    cc (pushed, more, c.loop-partition.invariant)
