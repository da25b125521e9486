use Rattle.std.proofs.Common.{◌≡◌, ◌∙◌, ℕ, ◌+◌, List, [], ◌∷◌, get_or, drop, refl, ap, subst, rules}
use Rattle.std.specs.Prelude.{slice_set}
use Rattle.std.proofs.lemmas.List.{drop_all, get_or_default}
use Rattle.kp_wire.proofs.ListLemmas.{drop_here}
use Rattle.kp_rules.specs.HandingOver.{send_in}
use Rattle.kp_rules.specs.Partitions.{new_partition, partition_at}
use Rattle.kp_core.proofs.SendEachLemmas.{IsToSend, send_next, send_none}
use Rattle.kp_core.proofs.machine.partitions.changing.send_at.Goals as goal

pub loop-place-init : goal.loop-place-init
loop-place-init c = record { there = c.requires.there; once = c.requires.once; place = c.requires.place; changed = refl }

pub returns : goal.returns
returns c =
    let none : drop c.loop-place.place-index c.args.chosen.now ≡ [] = drop_all c.loop-place.place-index c.args.chosen.now (search rules) in
    send_none (subst (λ (ps : List ℕ). IsToSend c.args.correlation c.args.chosen.now c.args.partitions.now.items ps c.loop-place.partitions.items) none c.loop-place.invariant)

pub loop-place-preserved : goal.loop-place-preserved
loop-place-preserved c =
    let chosen = c.args.chosen.now in
    let i = c.loop-place.place-index in
    let p = get_or chosen i 0 in
    let ts = c.loop-place.partitions.items in
    let t = c.index_mut-partition.result.now in
    let here : drop i chosen ≡ p ∷ drop (i + 1) chosen = drop_here chosen i p c.loop-place-test.true (get_or_default chosen i 0 p c.loop-place-test.true) in
    let still : IsToSend c.args.correlation chosen c.args.partitions.now.items (p ∷ drop (i + 1) chosen) ts =
    subst (λ (ps : List ℕ). IsToSend c.args.correlation chosen c.args.partitions.now.items ps ts) here c.loop-place.invariant in
    let same : t ≡ partition_at p ts = c.index_mut-partition.ensures.value ∙ get_or_default ts p t (new_partition 0) still.there.0 in
    send_next _ (ap (slice_set ts p) (c.send_in.ensures ∙ ap (send_in c.args.correlation) same)) still
