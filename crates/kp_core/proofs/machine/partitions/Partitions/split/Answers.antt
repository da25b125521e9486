use Rattle.std.proofs.Common.{◌≡◌, ◌∙◌, ◌<◌, ◌≤◌, ◌++◌, Bool, List, ℕ, true, false, length, take, drop, nat_lt, sym, ap, subst, rules, of_calls, arith}
use Rattle.std.specs.Prelude.{filter}
use Rattle.std.specs.List.Sorted.{IsPartitionedBy, IsPartitionPoint}
use Rattle.std.proofs.lemmas.Fn.{always_returns_same}
use Rattle.kp_rules.specs.Partitions.{leads, partition_at}
use Rattle.kp_rules.proofs.ListLemmas.{all_filter}
use Rattle.kp_core.specs.Busy.{busy_from}
use Rattle.kp_core.proofs.BusyLemmas.{busy_above}
use Rattle.kp_core.proofs.ListedLemmas.{below_it}
use Rattle.kp_core.proofs.WalkLemmas.{first_part, parted, point-is, second_part}
use Rattle.kp_core.proofs.WorkLemmas.{work_split}
use Rattle.kp_core.proofs.machine.partitions.Partitions.split.Goals as goal

pub returns-clause-below : goal.returns-clause-below
returns-clause-below c =
    let ts = c.args.self.now in
    let m = c.args.first in
    let its : ℕ → Bool = λ p. leads c.args.node (partition_at p ts) in
    let below : List ℕ = filter its (busy_from 0 (take m ts)) in
    let above : List ℕ = filter its (busy_from m (drop m ts)) in
    let lows = all_filter (λ p. p < m) its (busy_from 0 (take m ts)) (below_it m ts c.requires) in
    let highs = all_filter (λ p. m ≤ p) its (busy_from m (drop m ts)) (busy_above m m (drop m ts) (omega arith)) in
    let same : c.led_by-places.result.now ≡ below ++ above =
    c.led_by-places.ensures ∙ work_split c.args.node m ts c.requires in
    let bound : c.partition_point-count.result ≤ length (below ++ above) =
    subst (λ (ps : List ℕ). c.partition_point-count.result ≤ length ps) same c.partition_point-count.ensures.bound in
    let point = c.partition_point-count.ensures.partitioned (λ p. nat_lt p m) (always_returns_same _ _ _ (λ a r f k. search (rules, of_calls)))
    (subst (λ (ps : List ℕ). IsPartitionedBy (λ p. nat_lt p m) ps) (sym same) (parted m below above lows highs)) in
    let at : c.partition_point-count.result ≡ length below = point-is m below above c.partition_point-count.result lows highs bound
    (subst (λ (ps : List ℕ). IsPartitionPoint (λ p. nat_lt p m ≡ true) (λ p. nat_lt p m ≡ false) ps c.partition_point-count.result) same point) in
    c.split_at.ensures.front ∙ ap (λ (n : ℕ). take n c.led_by-places.result.now) at ∙ ap (take (length below)) same ∙ first_part below above

pub returns-clause-behind : goal.returns-clause-behind
returns-clause-behind c =
    let ts = c.args.self.now in
    let m = c.args.first in
    let its : ℕ → Bool = λ p. leads c.args.node (partition_at p ts) in
    let below : List ℕ = filter its (busy_from 0 (take m ts)) in
    let above : List ℕ = filter its (busy_from m (drop m ts)) in
    let lows = all_filter (λ p. p < m) its (busy_from 0 (take m ts)) (below_it m ts c.requires) in
    let highs = all_filter (λ p. m ≤ p) its (busy_from m (drop m ts)) (busy_above m m (drop m ts) (omega arith)) in
    let same : c.led_by-places.result.now ≡ below ++ above =
    c.led_by-places.ensures ∙ work_split c.args.node m ts c.requires in
    let bound : c.partition_point-count.result ≤ length (below ++ above) =
    subst (λ (ps : List ℕ). c.partition_point-count.result ≤ length ps) same c.partition_point-count.ensures.bound in
    let point = c.partition_point-count.ensures.partitioned (λ p. nat_lt p m) (always_returns_same _ _ _ (λ a r f k. search (rules, of_calls)))
    (subst (λ (ps : List ℕ). IsPartitionedBy (λ p. nat_lt p m) ps) (sym same) (parted m below above lows highs)) in
    let at : c.partition_point-count.result ≡ length below = point-is m below above c.partition_point-count.result lows highs bound
    (subst (λ (ps : List ℕ). IsPartitionPoint (λ p. nat_lt p m ≡ true) (λ p. nat_lt p m ≡ false) ps c.partition_point-count.result) same point) in
    c.split_at.ensures.back ∙ ap (λ (n : ℕ). drop n c.led_by-places.result.now) at ∙ ap (drop (length below)) same ∙ second_part below above
