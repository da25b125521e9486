use Rattle.std.proofs.Common.{◌≡◌, ◌∙◌, ℕ, ◌<◌, List, length, map, vec_capacity, sym, ap, subst}
use Rattle.std.specs.List.{AllByRecursion}
use Rattle.kp_rules.specs.InOrder.{AreDistinct}
use Rattle.kp_rules.specs.Partitions.{changed_at, partition_at}
use Rattle.kp_rules.specs.Records.{Told}
use Rattle.std.specs.Prelude.{flat_map}
use Rattle.kp_rules.specs.Fence.{give_up}
use Rattle.kp_parts.specs.Desk.{Covers, tell_desk}
use Rattle.kp_core.proofs.BusyLemmas.{busy_once, busy_there}
use Rattle.kp_core.proofs.ByLeaderLemmas.{none_by_leader}
use Rattle.kp_core.proofs.IdleLemmas.{given_up_idle, idle_given_up}
use Rattle.kp_core.proofs.ListedLemmas.{effects_busy, told_busy, none_listed}
use Rattle.kp_core.proofs.machine.partitions.Partitions.give_up_each.Goals as goal

pub give_up_at-requires-clause-there : goal.give_up_at-requires-clause-there
give_up_at-requires-clause-there c =
    let ts = c.self.inside.all.items in
    subst (AllByRecursion (λ p. p < length ts)) (sym (c.deref.ensures.value ∙ c.self.invariant.listed.busy)) (busy_there ts)

pub give_up_at-requires-clause-once : goal.give_up_at-requires-clause-once
give_up_at-requires-clause-once c = subst AreDistinct (sym (c.deref.ensures.value ∙ c.self.invariant.listed.busy)) (busy_once 0 c.self.inside.all.items)

pub give_up_at-requires-clause-covered : goal.give_up_at-requires-clause-covered
give_up_at-requires-clause-covered c =
    let ts = c.self.inside.all.items in
    subst (Covers c.args.desk.now)
    (sym (ap (flat_map (λ p. (give_up c.args.why (partition_at p ts)).told)) (c.deref.ensures.value ∙ c.self.invariant.listed.busy)
    ∙ told_busy (give_up c.args.why) ts (idle_given_up c.args.why) ∙ ap (flat_map (λ t. (give_up c.args.why t).told)) c.self.view_is)) c.requires

pub invariant_of-self : goal.invariant_of-self
invariant_of-self c =
    let ts = c.self.inside.all.items in
    let us = c.give_up_at.new.partitions.items in
    let is : us ≡ map (λ t. (give_up c.args.why t).after) ts =
    c.give_up_at.ensures.after ∙ ap (λ (ps : List ℕ). changed_at ps (λ p t. (give_up c.args.why t).after) ts) (c.deref.ensures.value ∙ c.self.invariant.listed.busy)
    ∙ effects_busy (give_up c.args.why) ts (idle_given_up c.args.why) in
    record {
      listed = none_listed (λ t. (give_up c.args.why t).after) us c.clear.new.self.items (vec_capacity c.clear.new.self) (given_up_idle c.args.why) is
          c.clear.ensures.items c.clear.ensures.capacity c.self.invariant.listed;
      by_leader = none_by_leader (λ t. (give_up c.args.why t).after) us c.clear-2.new.self.items (vec_capacity c.clear-2.new.self) (given_up_idle c.args.why) is
          c.clear-2.ensures.items c.clear-2.ensures.capacity c.self.invariant.by_leader;
    }

pub returns-clause-after : goal.returns-clause-after
returns-clause-after c =
    let ts = c.self.inside.all.items in
    c.give_up_at.ensures.after ∙ ap (λ (ps : List ℕ). changed_at ps (λ p t. (give_up c.args.why t).after) ts) (c.deref.ensures.value ∙ c.self.invariant.listed.busy)
    ∙ effects_busy (give_up c.args.why) ts (idle_given_up c.args.why) ∙ ap (map (λ t. (give_up c.args.why t).after)) c.self.view_is

pub returns-clause-told : goal.returns-clause-told
returns-clause-told c =
    let ts = c.self.inside.all.items in
    c.give_up_at.ensures.told
    ∙ ap (λ (xs : List Told). tell_desk xs c.args.desk.now)
    (ap (flat_map (λ p. (give_up c.args.why (partition_at p ts)).told)) (c.deref.ensures.value ∙ c.self.invariant.listed.busy)
    ∙ told_busy (give_up c.args.why) ts (idle_given_up c.args.why) ∙ ap (flat_map (λ t. (give_up c.args.why t).told)) c.self.view_is)
