use Rattle.std.proofs.Common.{◌≡◌, ◌∙◌, ap, ℕ, suc, ◌+◌, Bool, List, ◌++◌, take, drop, get_or, arith}
use Rattle.std.specs.Prelude.{slice_set}
use Rattle.kp_cluster.specs.declared.slot.Slot.{Slot}
use Rattle.kp_cluster.specs.Learning.{marked_from}
use Rattle.kp_cluster.proofs.LearningLemmas.{mark, marked_get, marked_put}
use Rattle.kp_cluster.proofs.learning.mark_leaders.Goals as goal

pub loop-place-preserved : goal.loop-place-preserved
loop-place-preserved c =
    let xs = c.args.slots.now in
    let leaders = c.args.leaders.now in
    let slots = c.loop-place.slots in
    let i = c.loop-place.place in
    let d = c.index-slots-place.result in
    let marked = marked_from 0 leaders (take i xs) ++ drop i xs in
    let next : suc i ≡ i + 1 = omega arith in
    let same : i ≡ 0 + i = omega arith in
    ap (λ (b : Bool). slice_set slots i (record (get_or slots i d) { leads = b })) c.leads-slot.ensures
    ∙ ap (λ (ys : List Slot). slice_set ys i (mark leaders i (get_or ys i d))) c.loop-place.invariant
    ∙ ap (λ (s : Slot). slice_set marked i (mark leaders i s)) (marked_get leaders 0 i xs d c.loop-place-test.true)
    ∙ marked_put leaders 0 i i xs d same c.loop-place-test.true
    ∙ ap (λ (j : ℕ). marked_from 0 leaders (take j xs) ++ drop j xs) next
