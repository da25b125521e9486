use Rattle.std.proofs.Common.{◌≡◌, ◌≤◌, ℕ, length, sym, ap, ◌∙◌, subst, List, Option}
use Rattle.std.specs.Prelude.{ℤ}
use Rattle.kp_hello.proofs.ChartLemmas.{some_leaders, few_leaders}
use Rattle.kp_hello.proofs.charting.judge_chart.Goals as goal

pub invariant_of-result : goal.invariant_of-result
invariant_of-result c = record {
  some_partitions = subst (λ (ls : List (Option ℤ)). 1 ≤ length ls) (sym c.in_ok-leaders.ensures) (some_leaders _ c.in_ok-partitions.partitions.now c.in_ok-partitions.ensures.numbered);
  partition_limit = subst (λ (ls : List (Option ℤ)). length ls ≤ 1024) (sym c.in_ok-leaders.ensures) (few_leaders _ c.in_ok-partitions.partitions.now c.in_ok-partitions.ensures.numbered);
}
