use Rattle.std.proofs.Common.{◌∙◌, ℕ, ◌<◌, List, length, map, vec_capacity, sym, ap, subst}
use Rattle.std.specs.List.{AllByRecursion}
use Rattle.kp_rules.specs.InOrder.{AreDistinct}
use Rattle.kp_rules.specs.Partitions.{changed_at, partition_at}
use Rattle.kp_rules.specs.Records.{Told}
use Rattle.std.specs.Prelude.{flat_map}
use Rattle.kp_rules.specs.Tick.{heed_deadlines}
use Rattle.kp_parts.specs.Desk.{Covers, tell_desk}
use Rattle.kp_core.proofs.BusyLemmas.{busy_once, busy_there}
use Rattle.kp_core.proofs.ByLeaderLemmas.{both_lists, kept_by_leader}
use Rattle.kp_core.proofs.IdleLemmas.{idle_heeded}
use Rattle.kp_core.proofs.LeaderLemmas.{heeded_leader}
use Rattle.kp_core.proofs.ListedLemmas.{effects_busy, told_busy, kept_listed}
use Rattle.kp_core.proofs.machine.partitions.Partitions.heed_each.Goals as goal

pub heed_at-requires-clause-there : goal.heed_at-requires-clause-there
heed_at-requires-clause-there c =
    let ts = c.self.inside.all.items in
    subst (AllByRecursion (λ p. p < length ts)) (sym (c.deref.ensures.value ∙ c.self.invariant.listed.busy)) (busy_there ts)

pub heed_at-requires-clause-once : goal.heed_at-requires-clause-once
heed_at-requires-clause-once c = subst AreDistinct (sym (c.deref.ensures.value ∙ c.self.invariant.listed.busy)) (busy_once 0 c.self.inside.all.items)

pub heed_at-requires-clause-covered : goal.heed_at-requires-clause-covered
heed_at-requires-clause-covered c =
    let ts = c.self.inside.all.items in
    subst (Covers c.args.desk.now)
    (sym (ap (flat_map (λ p. (heed_deadlines c.args.config.now c.args.now (partition_at p ts)).told)) (c.deref.ensures.value ∙ c.self.invariant.listed.busy)
    ∙ told_busy (heed_deadlines c.args.config.now c.args.now) ts (idle_heeded c.args.config.now c.args.now) ∙ ap (flat_map (λ t. (heed_deadlines c.args.config.now c.args.now t).told)) c.self.view_is)) c.requires

pub keep_in_both-requires : goal.keep_in_both-requires
keep_in_both-requires c = both_lists c.self.invariant.listed c.self.invariant.by_leader

pub invariant_of-self : goal.invariant_of-self
invariant_of-self c =
    record {
      listed = kept_listed c.deref.result.now (λ p t. heed_deadlines c.args.config.now c.args.now t) c.heed_at.new.partitions.items c.deref-2.result.now c.keep_in_both.new.busy.items
          (vec_capacity c.keep_in_both.new.busy) (λ p. idle_heeded c.args.config.now c.args.now) c.heed_at.ensures.after c.deref-2.ensures.value
          c.keep_in_both.ensures.busy c.keep_in_both.ensures.room c.self.invariant.listed;
      by_leader = kept_by_leader c.deref.result.now (λ p t. heed_deadlines c.args.config.now c.args.now t) c.heed_at.new.partitions.items c.deref-2.result.now c.keep_in_both.new.by_leader.items
          (vec_capacity c.keep_in_both.new.by_leader) (λ p. idle_heeded c.args.config.now c.args.now) (λ p. heeded_leader c.args.config.now c.args.now) c.heed_at.ensures.after c.deref-2.ensures.value
          c.keep_in_both.ensures.by_leader c.keep_in_both.ensures.by_leader_room c.self.invariant.by_leader;
    }

pub returns-clause-after : goal.returns-clause-after
returns-clause-after c =
    let ts = c.self.inside.all.items in
    c.heed_at.ensures.after ∙ ap (λ (ps : List ℕ). changed_at ps (λ p t. (heed_deadlines c.args.config.now c.args.now t).after) ts) (c.deref.ensures.value ∙ c.self.invariant.listed.busy)
    ∙ effects_busy (heed_deadlines c.args.config.now c.args.now) ts (idle_heeded c.args.config.now c.args.now) ∙ ap (map (λ t. (heed_deadlines c.args.config.now c.args.now t).after)) c.self.view_is

pub returns-clause-told : goal.returns-clause-told
returns-clause-told c =
    let ts = c.self.inside.all.items in
    c.heed_at.ensures.told
    ∙ ap (λ (xs : List Told). tell_desk xs c.args.desk.now)
    (ap (flat_map (λ p. (heed_deadlines c.args.config.now c.args.now (partition_at p ts)).told)) (c.deref.ensures.value ∙ c.self.invariant.listed.busy)
    ∙ told_busy (heed_deadlines c.args.config.now c.args.now) ts (idle_heeded c.args.config.now c.args.now) ∙ ap (flat_map (λ t. (heed_deadlines c.args.config.now c.args.now t).told)) c.self.view_is)
