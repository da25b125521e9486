use Rattle.std.proofs.Common.{◌≡◌, ◌∙◌, ◌≤◌, ℕ, List, length, sym, subst, rules, of_calls}
use Rattle.std.specs.List.Sorted.{IsPartitionedBy}
use Rattle.std.proofs.lemmas.Fn.{always_returns_same}
use Rattle.kp_rules.specs.Partitions.{partition_at}
use Rattle.kp_core.specs.ByLeader.{is_before, led_at, places_in}
use Rattle.kp_core.proofs.LedLemmas.{PartAt}
use Rattle.kp_core.proofs.WalkLemmas.{last_passes}
use Rattle.kp_core.proofs.WorkLemmas.{before_parted, led_push, led_put}
use Rattle.kp_core.proofs.machine.partitions.leaders.put_led.Goals as goal

pub returns-then-is_none_or-clause-items : goal.returns-then-is_none_or-clause-items
returns-then-is_none_or-clause-items c leds rises h is =
    let us = c.args.partitions.now in
    let p = c.args.place in
    let q : ℕ → _ = λ o. is_before (led_at o (partition_at o us)) (led_at p (partition_at p us)) in
    let same : c.deref.result.now ≡ places_in leds = c.deref.ensures.value ∙ is in
    let point = last_passes _ q c.deref.result.now c.last.result _ c.last.ensures.value c.is_none_or.ensures (λ x k. search (rules, of_calls))
    (subst (IsPartitionedBy q) (sym same) (before_parted p us leds rises h)) in
    led_push p us leds c.args.places.now.items c.push_reserved.new.self.items rises h is
    (subst (λ (ps : List ℕ). PartAt q ps (length ps)) c.deref.ensures.value point) c.push_reserved.ensures.items

pub returns-clause-items : goal.returns-clause-items
returns-clause-items c leds rises h is =
    let us = c.args.partitions.now in
    let p = c.args.place in
    let q : ℕ → _ = λ o. is_before (led_at o (partition_at o us)) (led_at p (partition_at p us)) in
    let same : c.deref-2.result.now ≡ places_in leds = c.deref-2.ensures.value ∙ is in
    let point = c.partition_point-at.ensures.partitioned q (always_returns_same _ _ _ (λ a r f k. search (rules, of_calls)))
    (subst (IsPartitionedBy q) (sym same) (before_parted p us leds rises h)) in
    led_put p c.partition_point-at.result us leds c.args.places.now.items c.insert-inserted.new.self.items c.insert-inserted.result rises h is
    (subst (λ (ps : List ℕ). c.partition_point-at.result ≤ length ps) c.deref-2.ensures.value c.partition_point-at.ensures.bound)
    (subst (λ (ps : List ℕ). PartAt q ps c.partition_point-at.result) c.deref-2.ensures.value point)
    (c.insert-inserted.ensures.succeeds c.requires) c.insert-inserted.ensures.items
