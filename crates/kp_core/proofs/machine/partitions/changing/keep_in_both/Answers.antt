use Rattle.std.proofs.Common.{◌≡◌, ◌∙◌, ℕ, Bool, List, length, ap, rules, arith}
use Rattle.std.specs.Prelude.{filter}
use Rattle.kp_rules.specs.Partitions.{partition_at}
use Rattle.kp_core.specs.Busy.{is_busy}
use Rattle.kp_core.proofs.WorkLemmas.{all_stay}
use Rattle.kp_core.proofs.machine.partitions.changing.keep_in_both.Goals as goal

pub returns-else-len-count-clause-by_leader : goal.returns-else-len-count-clause-by_leader
returns-else-len-count-clause-by_leader c =
    let still : ℕ → Bool = λ p. is_busy (partition_at p c.args.partitions.now) in
    let before : c.len-count.result ≡ length c.args.busy.now.items = search rules in
    let after : c.len.result ≡ length c.keep_busy.new.places.items = search rules in
    let left : c.len.result ≡ length (filter still c.args.busy.now.items) = after ∙ ap (λ (ps : List ℕ). length ps) c.keep_busy.ensures.items in
    all_stay still c.args.busy.now.items c.args.by_leader.now.items (omega (arith, before, left, c.if-len-count.false)) c.requires
