use Rattle.std.proofs.Common.{◌≡◌, ℕ, ◌+◌, List, length, sym, ap, ◌∙◌, subst, arith, get_or, Option, None}
use Rattle.std.specs.Prelude.{ℤ}
use Rattle.std.proofs.Math.ListN.{replicate, set}
use Rattle.std.proofs.lemmas.List.{length-replicate}
use Rattle.kp_hello.specs.Chart.{leader_of}
use Rattle.kp_frames.specs.declared.metadata.PartitionMetadata.{PartitionMetadata}
use Rattle.kp_hello.proofs.ChartLemmas.{Led, led_none, led_more, led_outside, led_all, no_leaders}
use Rattle.kp_hello.proofs.charting.leaders_of.Goals.{in-Some, in_default}
use Rattle.kp_hello.proofs.charting.leaders_of.Goals as goal

pub loop-partition-init : goal.loop-partition-init
loop-partition-init c =
    let ps = c.args.partitions.now in
    let none : c.in_ok-leaders.leaders.items ≡ replicate (length ps) None = c.in_ok-leaders.ensures in
    led_none c.args.nodes.now ps c.in_ok-leaders.leaders.items (ap (λ (ls : List (Option ℤ)). length ls) none ∙ length-replicate (length ps) None)
    (λ k. ap (λ (ls : List (Option ℤ)). get_or ls k None) none ∙ no_leaders (length ps) k)

pub loop-partition-preserved : goal.loop-partition-preserved
loop-partition-preserved c =
    let p = c.partition-item.result in
    let ps = c.args.partitions.now in
    let nodes = c.args.nodes.now in
    let i = c.loop-partition.partition-index in
    let number = ap (λ (q : PartitionMetadata). q.partition) c.partition-item.is in
    elim c.match-place_of.branch [
      | in-Some w ↦
          let some = w.in-Some.ensures.some in
          let led = led_more nodes ps i w.in-Some.place c.loop-partition.leaders.items p c.requires c.loop-partition.invariant c.loop-partition-test.true (sym number ∙ some.0) some.1 in
          subst (λ (ls : List (Option ℤ)). Led nodes ps (i + 1) ls)
          (ap (λ (x : Option ℤ). set c.loop-partition.leaders.items w.in-Some.place x) (ap (leader_of nodes) (sym c.partition-item.is) ∙ sym w.leader_of.ensures)
          ∙ sym (ap (λ (v : _). v.items) w.leaders-is)) led
      | in_default w ↦
          let none = w.in_default.ensures.none in
          subst (λ (ls : List (Option ℤ)). Led nodes ps (i + 1) ls) (sym (ap (λ (v : _). v.items) w.leaders-is))
          (led_outside nodes ps i c.loop-partition.leaders.items p c.loop-partition.invariant c.loop-partition-test.true (λ k lt e. none k lt (number ∙ e)))
    ]

pub returns : goal.returns
returns c =
    let ps = c.args.partitions.now in
    let all : c.loop-partition.partition-index ≡ length ps = omega arith in
    led_all c.args.nodes.now ps c.loop-partition.leaders.items (subst (λ (i : ℕ). Led c.args.nodes.now ps i c.loop-partition.leaders.items) all c.loop-partition.invariant)
