use Rattle.std.proofs.Common.{◌≡◌, ◌∙◌, sym, ap, ◌<◌, ◌≤◌, ◌++◌, ◌∷◌, [], Some, None, length, rules}
use Rattle.std.specs.Prelude.{slice_set}
use Rattle.std.proofs.lemmas.Result.{IfOk-weaker}
use Rattle.kp_cluster.specs.declared.slot.Slot.{Slot}
use Rattle.kp_cluster.specs.Learning.{SLOT_LIMIT, slot_of, renewed}
use Rattle.kp_cluster.proofs.SlotLemmas.{changed_at}
use Rattle.kp_cluster.proofs.LearningLemmas.{placed_known, placed_new, placed_nowhere}
use Rattle.kp_cluster.proofs.learning.place.Goals as goal

pub returns-in-Some-clause-exact : goal.returns-in-Some-clause-exact
returns-in-Some-clause-exact c =
    let slots = c.args.slots.now.items in
    let node = c.args.node.now in
    let n = c.in-Some.place in
    let known : slot_of node.id slots ≡ Some n = sym (c.in-Some.ensures ∙ ap (slot_of node.id) c.deref.ensures.value) in
    let below : n < length slots = search rules in
    IfOk-weaker c.renew.result _ _
    (λ r e. ap (slice_set slots n) (e ∙ ap (renewed node) c.index_mut.ensures.value) ∙ changed_at (renewed node) n slots c.index_mut.result.now below ∙ placed_known node slots n known)
    c.renew.ensures

pub returns-in_ok-push-in-None-clause-exact : goal.returns-in_ok-push-in-None-clause-exact
returns-in_ok-push-in-None-clause-exact c =
    let slots = c.args.slots.now.items in
    let node = c.args.node.now in
    let unknown : slot_of node.id slots ≡ None = sym (c.in-None.ensures ∙ ap (slot_of node.id) c.deref.ensures.value) in
    let room : length slots < SLOT_LIMIT = search rules in
    c.in_ok-push-in-None.ensures.items
    ∙ ap (λ (s : Slot). slots ++ s ∷ []) c.in_ok-slot-in-None.ensures
    ∙ placed_new node slots unknown room

pub returns-in-None-2-clause-exact : goal.returns-in-None-2-clause-exact
returns-in-None-2-clause-exact c =
    let slots = c.args.slots.now.items in
    let node = c.args.node.now in
    let unknown : slot_of node.id slots ≡ None = sym (c.in-None.ensures ∙ ap (slot_of node.id) c.deref.ensures.value) in
    let full : SLOT_LIMIT ≤ length slots = search rules in
    placed_nowhere node slots unknown full
