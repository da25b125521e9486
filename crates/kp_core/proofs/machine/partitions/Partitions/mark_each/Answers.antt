use Rattle.std.proofs.Common.{◌≡◌, ◌∙◌, refl, ℕ, ◌<◌, List, length, map, sym, ap, subst}
use Rattle.std.specs.List.{AllByRecursion}
use Rattle.kp_rules.specs.InOrder.{AreDistinct}
use Rattle.kp_rules.specs.Partitions.{changed_at}
use Rattle.kp_rules.specs.Records.{Partition}
use Rattle.kp_rules.specs.Flush.{mark}
use Rattle.kp_core.proofs.BusyLemmas.{busy_once, busy_there}
use Rattle.kp_core.proofs.ByLeaderLemmas.{map_by_leader}
use Rattle.kp_core.proofs.IdleLemmas.{idle_marked, marked_busy}
use Rattle.kp_core.proofs.ListedLemmas.{changed_busy, map_listed}
use Rattle.kp_core.proofs.machine.partitions.Partitions.mark_each.Goals as goal

pub mark_at-requires-clause-there : goal.mark_at-requires-clause-there
mark_at-requires-clause-there c =
    let ts = c.self.inside.all.items in
    subst (AllByRecursion (λ p. p < length ts)) (sym (c.deref.ensures.value ∙ c.self.invariant.listed.busy)) (busy_there ts)

pub mark_at-requires-clause-once : goal.mark_at-requires-clause-once
mark_at-requires-clause-once c = subst AreDistinct (sym (c.deref.ensures.value ∙ c.self.invariant.listed.busy)) (busy_once 0 c.self.inside.all.items)

pub invariant_of-self : goal.invariant_of-self
invariant_of-self c =
    let ts = c.self.inside.all.items in
    let f : Partition → Partition = mark in
    let us = c.mark_at.new.partitions.items in
    let is : us ≡ map f ts =
    c.mark_at.ensures ∙ ap (λ (ps : List ℕ). changed_at ps (λ p t. f t) ts) (c.deref.ensures.value ∙ c.self.invariant.listed.busy) ∙ changed_busy f ts idle_marked in
    record { listed = map_listed f us is marked_busy c.self.invariant.listed; by_leader = map_by_leader f us is marked_busy (λ t. refl) c.self.invariant.by_leader }

pub returns : goal.returns
returns c =
    let ts = c.self.inside.all.items in
    let f : Partition → Partition = mark in
    c.mark_at.ensures ∙ ap (λ (ps : List ℕ). changed_at ps (λ p t. f t) ts) (c.deref.ensures.value ∙ c.self.invariant.listed.busy)
    ∙ changed_busy f ts idle_marked ∙ ap (map f) c.self.view_is
