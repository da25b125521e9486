use Rattle.std.proofs.Common.{◌≡◌, ◌∙◌, ◌≤◌, ℕ, true, List, length, take, drop, nat_lt, nat_le, sym, ap, subst, rules, of_calls}
use Rattle.std.specs.List.{list_all}
use Rattle.std.specs.List.Sorted.{IsPartitionedBy}
use Rattle.std.proofs.lemmas.Fn.{always_returns_same}
use Rattle.kp_rules.specs.Partitions.{leads, partition_at}
use Rattle.kp_core.specs.ByLeader.{by_leader}
use Rattle.kp_core.proofs.LedLemmas.{PartAt}
use Rattle.kp_core.proofs.WorkLemmas.{all_led, low_parted, upto_parted, work-is}
use Rattle.kp_core.proofs.machine.partitions.leaders.led_by.Goals as goal

pub returns-then-leads_all : goal.returns-then-leads_all
returns-then-leads_all c =
    let ts = c.args.partitions.now in
    let all : list_all (λ p. leads c.args.node (partition_at p ts)) (by_leader ts) ≡ true =
    ap (list_all (λ p. leads c.args.node (partition_at p ts))) (sym c.requires) ∙ sym c.leads_all.ensures ∙ c.if-leads_all.true in
    c.requires ∙ all_led c.args.node ts all

pub returns : goal.returns
returns c =
    let ts = c.args.partitions.now in
    let node = c.args.node in
    let i = c.partition_point-below.result in
    let j = c.partition_point-count.result in
    let q : ℕ → _ = λ p. nat_lt (partition_at p ts).leader node in
    let r : ℕ → _ = λ p. nat_le (partition_at p ts).leader node in
    let point = c.partition_point-below.ensures.partitioned q (always_returns_same _ _ _ (λ a x f k. search (rules, of_calls)))
    (subst (IsPartitionedBy q) (sym c.requires) (low_parted node ts)) in
    let others = c.split_at.result.1.now in
    let rest : others ≡ drop i (by_leader ts) = c.split_at.ensures.back ∙ ap (drop i) c.requires in
    let next = c.partition_point-count.ensures.partitioned r (always_returns_same _ _ _ (λ a x f k. search (rules, of_calls)))
    (subst (IsPartitionedBy r) (sym rest) (upto_parted node i ts)) in
    c.split_at-2.ensures.front ∙ ap (take j) rest
    ∙ work-is node i j ts (subst (λ (ps : List ℕ). i ≤ length ps) c.requires c.partition_point-below.ensures.bound) (subst (λ (ps : List ℕ). PartAt q ps i) c.requires point)
    (subst (λ (ps : List ℕ). j ≤ length ps) rest c.partition_point-count.ensures.bound) (subst (λ (ps : List ℕ). PartAt r ps j) rest next)
