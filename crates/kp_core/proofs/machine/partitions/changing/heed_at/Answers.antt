use Rattle.std.proofs.Common.{◌≡◌, ◌∙◌, ℕ, ◌+◌, List, [], ◌∷◌, get_or, drop, refl, ap, sym, subst, rules}
use Rattle.std.specs.Prelude.{slice_set}
use Rattle.std.proofs.lemmas.List.{drop_all, get_or_default}
use Rattle.kp_wire.proofs.ListLemmas.{drop_here}
use Rattle.kp_rules.specs.Tick.{heed_deadlines}
use Rattle.kp_rules.specs.Partitions.{new_partition, partition_at}
use Rattle.kp_rules.specs.Records.{Partition}
use Rattle.kp_parts.specs.Desk.{Covers, tell_desk}
use Rattle.kp_core.proofs.ChosenLemmas.{IsToFollow, covers_chosen, follow_next, follow_none}
use Rattle.kp_core.proofs.machine.partitions.changing.heed_at.Goals as goal

pub loop-place-init : goal.loop-place-init
loop-place-init c = record { count = refl; there = c.requires.there; once = c.requires.once; changed = refl; says = refl; covers = c.requires.covered }

pub heed_deadlines-requires : goal.heed_deadlines-requires
heed_deadlines-requires c =
    let places = c.args.places.now in
    let i = c.loop-place.place-index in
    let p = get_or places i 0 in
    let ts = c.loop-place.partitions.items in
    let t = c.index_mut-partition.result.now in
    let here : drop i places ≡ p ∷ drop (i + 1) places = drop_here places i p c.loop-place-test.true (get_or_default places i 0 p c.loop-place-test.true) in
    let still : IsToFollow (λ p t. heed_deadlines c.args.config.now c.args.now t) places c.args.partitions.now.items c.args.desk.now (p ∷ drop (i + 1) places) ts c.loop-place.desk =
    subst (λ (ps : List ℕ). IsToFollow (λ p t. heed_deadlines c.args.config.now c.args.now t) places c.args.partitions.now.items c.args.desk.now ps ts c.loop-place.desk) here c.loop-place.invariant in
    let same : t ≡ partition_at p ts = c.index_mut-partition.ensures.value ∙ get_or_default ts p t (new_partition 0) still.there.0 in
    subst (λ (u : Partition). Covers c.loop-place.desk (heed_deadlines c.args.config.now c.args.now u).told) (sym same) (covers_chosen still)

pub loop-place-preserved : goal.loop-place-preserved
loop-place-preserved c =
    let places = c.args.places.now in
    let i = c.loop-place.place-index in
    let p = get_or places i 0 in
    let ts = c.loop-place.partitions.items in
    let t = c.index_mut-partition.result.now in
    let here : drop i places ≡ p ∷ drop (i + 1) places = drop_here places i p c.loop-place-test.true (get_or_default places i 0 p c.loop-place-test.true) in
    let still : IsToFollow (λ p t. heed_deadlines c.args.config.now c.args.now t) places c.args.partitions.now.items c.args.desk.now (p ∷ drop (i + 1) places) ts c.loop-place.desk =
    subst (λ (ps : List ℕ). IsToFollow (λ p t. heed_deadlines c.args.config.now c.args.now t) places c.args.partitions.now.items c.args.desk.now ps ts c.loop-place.desk) here c.loop-place.invariant in
    let same : t ≡ partition_at p ts = c.index_mut-partition.ensures.value ∙ get_or_default ts p t (new_partition 0) still.there.0 in
    follow_next _ _ (ap (slice_set ts p) (c.heed_deadlines.ensures.after ∙ ap (λ (u : Partition). (heed_deadlines c.args.config.now c.args.now u).after) same))
    (c.heed_deadlines.ensures.told ∙ ap (λ (u : Partition). tell_desk (heed_deadlines c.args.config.now c.args.now u).told c.loop-place.desk) same) still

pub returns-clause-after : goal.returns-clause-after
returns-clause-after c =
    let none : drop c.loop-place.place-index c.args.places.now ≡ [] = drop_all c.loop-place.place-index c.args.places.now (search rules) in
    (follow_none (subst (λ (ps : List ℕ). IsToFollow (λ p t. heed_deadlines c.args.config.now c.args.now t) c.args.places.now c.args.partitions.now.items c.args.desk.now ps c.loop-place.partitions.items c.loop-place.desk) none c.loop-place.invariant)).0

pub returns-clause-told : goal.returns-clause-told
returns-clause-told c =
    let none : drop c.loop-place.place-index c.args.places.now ≡ [] = drop_all c.loop-place.place-index c.args.places.now (search rules) in
    (follow_none (subst (λ (ps : List ℕ). IsToFollow (λ p t. heed_deadlines c.args.config.now c.args.now t) c.args.places.now c.args.partitions.now.items c.args.desk.now ps c.loop-place.partitions.items c.loop-place.desk) none c.loop-place.invariant)).1
