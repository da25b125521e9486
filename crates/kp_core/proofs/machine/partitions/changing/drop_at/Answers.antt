use Rattle.std.proofs.Common.{◌≡◌, ◌∙◌, ℕ, ◌+◌, List, [], ◌∷◌, get_or, drop, refl, ap, subst, rules}
use Rattle.std.specs.Prelude.{slice_set}
use Rattle.std.proofs.lemmas.List.{drop_all, get_or_default}
use Rattle.kp_wire.proofs.ListLemmas.{drop_here}
use Rattle.kp_rules.specs.Dropping.{drop_led}
use Rattle.kp_rules.specs.Partitions.{new_partition, partition_at}
use Rattle.kp_core.proofs.ChosenLemmas.{IsToChange, change_next, change_none}
use Rattle.kp_core.proofs.machine.partitions.changing.drop_at.Goals as goal

pub loop-place-init : goal.loop-place-init
loop-place-init c = record { there = c.requires.there; once = c.requires.once; changed = refl }

pub returns : goal.returns
returns c =
    let none : drop c.loop-place.place-index c.args.places.now ≡ [] = drop_all c.loop-place.place-index c.args.places.now (search rules) in
    change_none (subst (λ (ps : List ℕ). IsToChange (drop_led c.args.node c.args.now) c.args.places.now c.args.partitions.now.items ps c.loop-place.partitions.items) none c.loop-place.invariant)

pub loop-place-preserved : goal.loop-place-preserved
loop-place-preserved c =
    let places = c.args.places.now in
    let i = c.loop-place.place-index in
    let p = get_or places i 0 in
    let ts = c.loop-place.partitions.items in
    let t = c.index_mut-partition.result.now in
    let here : drop i places ≡ p ∷ drop (i + 1) places = drop_here places i p c.loop-place-test.true (get_or_default places i 0 p c.loop-place-test.true) in
    let still : IsToChange (drop_led c.args.node c.args.now) places c.args.partitions.now.items (p ∷ drop (i + 1) places) ts =
    subst (λ (ps : List ℕ). IsToChange (drop_led c.args.node c.args.now) places c.args.partitions.now.items ps ts) here c.loop-place.invariant in
    let same : t ≡ partition_at p ts = c.index_mut-partition.ensures.value ∙ get_or_default ts p t (new_partition 0) still.there.0 in
    change_next _ (ap (slice_set ts p) (c.drop_led.ensures ∙ ap (drop_led c.args.node c.args.now) same)) still
