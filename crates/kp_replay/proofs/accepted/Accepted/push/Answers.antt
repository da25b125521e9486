use Rattle.std.proofs.Common.{◌≡◌, ◌<◌, length, ◌∙◌, arith, rules}
use Rattle.std.proofs.lemmas.List.{get_or_read}
use Rattle.kp_world.specs.Accepting.{for_partition}
use Rattle.kp_replay.proofs.AcceptedLemmas.{few-for}
use Rattle.kp_replay.proofs.accepted.Accepted.push.Goals as goal

pub overflow_add-index_mut : goal.overflow_add-index_mut
overflow_add-index_mut c =
    let there : c.args.item.partition < length c.count_as_far.new.counts.items = omega (arith, c.in_ok-count_as_far.ensures.all) in
    let count : c.index_mut.result.now ≡ length (for_partition c.args.item.partition c.self.inside.items.items) =
    get_or_read c.count_as_far.new.counts.items c.args.item.partition c.index_mut.result.now there c.index_mut.ensures.value 0
    ∙ c.count_as_far.ensures.same c.args.item.partition ∙ c.self.invariant c.args.item.partition in
    let few = few-for c.args.item.partition c.self.inside.items.items in
    grind (arith, rules)
