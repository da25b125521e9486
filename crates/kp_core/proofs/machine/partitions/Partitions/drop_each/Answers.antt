use Rattle.std.proofs.Common.{◌≡◌, ◌∙◌, ℕ, ◌<◌, List, length, map, sym, ap, subst}
use Rattle.std.specs.List.{AllByRecursion}
use Rattle.kp_rules.specs.Dropping.{drop_led}
use Rattle.kp_rules.specs.InOrder.{AreDistinct}
use Rattle.kp_rules.specs.Partitions.{changed_at}
use Rattle.kp_rules.specs.Records.{Partition}
use Rattle.kp_core.specs.ByLeader.{by_leader, work_in}
use Rattle.kp_core.proofs.ByLeaderLemmas.{map_by_leader}
use Rattle.kp_core.proofs.IdleLemmas.{dropped_busy}
use Rattle.kp_core.proofs.LeaderLemmas.{dropped_leader}
use Rattle.kp_core.proofs.ListedLemmas.{map_listed}
use Rattle.kp_core.proofs.WorkLemmas.{work_dropped, work_once, work_there}
use Rattle.kp_core.proofs.machine.partitions.Partitions.drop_each.Goals as goal

pub led_by-places-requires : goal.led_by-places-requires
led_by-places-requires c = c.deref.ensures.value ∙ c.self.invariant.by_leader.places ∙ ap by_leader (sym c.deref-2.ensures.value)

pub drop_at-requires-clause-there : goal.drop_at-requires-clause-there
drop_at-requires-clause-there c =
    let ts = c.self.inside.all.items in
    subst (AllByRecursion (λ p. p < length ts)) (sym (c.led_by-places.ensures ∙ ap (work_in c.args.node) c.deref-2.ensures.value)) (work_there c.args.node ts)

pub drop_at-requires-clause-once : goal.drop_at-requires-clause-once
drop_at-requires-clause-once c =
    subst AreDistinct (sym (c.led_by-places.ensures ∙ ap (work_in c.args.node) c.deref-2.ensures.value)) (work_once c.args.node c.self.inside.all.items)

pub invariant_of-self : goal.invariant_of-self
invariant_of-self c =
    let ts = c.self.inside.all.items in
    let us = c.drop_at.new.partitions.items in
    let f : Partition → Partition = drop_led c.args.node c.args.now in
    let is : us ≡ map f ts =
    c.drop_at.ensures ∙ ap (λ (ps : List ℕ). changed_at ps (λ p t. f t) ts) (c.led_by-places.ensures ∙ ap (work_in c.args.node) c.deref-2.ensures.value)
    ∙ work_dropped c.args.node c.args.now ts in
    record {
      listed = map_listed f us is (dropped_busy c.args.node c.args.now) c.self.invariant.listed;
      by_leader = map_by_leader f us is (dropped_busy c.args.node c.args.now) (dropped_leader c.args.node c.args.now) c.self.invariant.by_leader;
    }

pub returns : goal.returns
returns c =
    let ts = c.self.inside.all.items in
    let f : Partition → Partition = drop_led c.args.node c.args.now in
    c.drop_at.ensures ∙ ap (λ (ps : List ℕ). changed_at ps (λ p t. f t) ts) (c.led_by-places.ensures ∙ ap (work_in c.args.node) c.deref-2.ensures.value)
    ∙ work_dropped c.args.node c.args.now ts ∙ ap (map f) c.self.view_is
