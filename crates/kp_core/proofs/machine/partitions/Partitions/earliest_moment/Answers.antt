use Rattle.std.proofs.Common.{◌≡◌, ◌∙◌, ◌<◌, ◌≤◌, ℕ, List, length, get_or, take, ap, subst}
use Rattle.std.specs.Prelude.{Option, flat_map}
use Rattle.std.proofs.lemmas.List.{take_all}
use Rattle.kp_rules.specs.Due.{earliest, partition_moments}
use Rattle.kp_rules.specs.Partitions.{partition_at}
use Rattle.kp_rules.specs.Records.{Partition}
use Rattle.kp_parts.specs.PartitionRooms.{sooner}
use Rattle.kp_core.specs.Busy.{busy_in}
use Rattle.kp_core.proofs.BusyLemmas.{all_at, flat_busy, listed_there}
use Rattle.kp_core.proofs.DueLemmas.{earliest-more}
use Rattle.kp_core.proofs.IdleLemmas.{idle_awaits_nothing}
use Rattle.kp_core.proofs.machine.partitions.Partitions.earliest_moment.Goals as goal

pub at-requires : goal.at-requires
at-requires c = listed_there c.args.self.now c.deref-place-items.result.now c.loop-place.place-index
    (c.deref-place-items.ensures.value ∙ c.self.invariant.listed.busy ∙ ap busy_in c.self.view_is) c.loop-place-test.true

pub loop-place-preserved : goal.loop-place-preserved
loop-place-preserved c =
    let from = c.args.from in
    let ts = c.args.self.now in
    let i = c.loop-place.place-index in
    let g : ℕ → List ℕ = λ p. partition_moments c.args.config.now (partition_at p ts) in
    let listed : c.deref-place-items.result.now ≡ busy_in ts = c.deref-place-items.ensures.value ∙ c.self.invariant.listed.busy ∙ ap busy_in c.self.view_is in
    let next : c.next_moment.result ≡ earliest from (g (get_or (busy_in ts) i 0)) =
    c.next_moment.ensures ∙ ap (λ (t : Partition). earliest from (partition_moments c.args.config.now t)) c.at.ensures
    ∙ ap (λ (ps : List ℕ). earliest from (g (get_or ps i 0))) listed in
    c.sooner-earliest.ensures
    ∙ ap (λ (o : Option ℕ). sooner o c.next_moment.result) c.loop-place.invariant
    ∙ ap (sooner (earliest from (flat_map g (take i (busy_in ts))))) next
    ∙ earliest-more from g (busy_in ts) i (subst (λ (ps : List ℕ). i < length ps) listed c.loop-place-test.true)

pub returns : goal.returns
returns c =
    let from = c.args.from in
    let ts = c.args.self.now in
    let g : ℕ → List ℕ = λ p. partition_moments c.args.config.now (partition_at p ts) in
    let listed : c.deref-place-items.result.now ≡ busy_in ts = c.deref-place-items.ensures.value ∙ c.self.invariant.listed.busy ∙ ap busy_in c.self.view_is in
    c.loop-place.invariant
    ∙ ap (λ (ps : List ℕ). earliest from (flat_map g ps)) (take_all c.loop-place.place-index (busy_in ts) (subst (λ (ps : List ℕ). length ps ≤ c.loop-place.place-index) listed c.loop-place-test.false))
    ∙ ap (earliest from) (flat_busy (partition_moments c.args.config.now) 0 ts ts (idle_awaits_nothing c.args.config.now) (all_at ts))
