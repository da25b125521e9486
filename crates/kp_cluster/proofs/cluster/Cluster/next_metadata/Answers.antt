use Rattle.std.proofs.Common.{◌≡◌, ◌∙◌, sym, ap, true, false, Some}
use Rattle.std.specs.List.{list_any}
use Rattle.kp_cluster.specs.Slots.{is_open}
use Rattle.kp_cluster.specs.Cluster.{Cluster}
use Rattle.kp_cluster.specs.Actions.{later_than, next_aged, pause_end}
use Rattle.kp_cluster.proofs.ClusterLemmas.{next_of_awaited, next_of_aged, next_of_open}
use Rattle.kp_cluster.proofs.cluster.Cluster.next_metadata.Goals as goal

pub returns-in-Some : goal.returns-in-Some
returns-in-Some c =
    let awaited = sym (ap (λ (v : Cluster). v.metadata.awaited) c.self.view_is) ∙ c.in-Some.is in
    c.later_than.ensures
    ∙ ap (λ (v : Cluster). later_than v.config.request_timeout_ms v.metadata.asked_at) c.self.view_is
    ∙ next_of_awaited c.in-Some.field-0 c.args.self.now awaited

pub returns-in-None : goal.returns-in-None
returns-in-None c =
    let awaited = sym (ap (λ (v : Cluster). v.metadata.awaited) c.self.view_is) ∙ c.in-None.is in
    let unwanted = sym (ap (λ (v : Cluster). v.metadata.wanted) c.self.view_is) ∙ c.if-not-metadata.true in
    c.later_than-in-None.ensures ∙ ap next_aged c.self.view_is ∙ next_of_aged c.args.self.now awaited unwanted

pub returns-in-None-2 : goal.returns-in-None-2
returns-in-None-2 c =
    let awaited = sym (ap (λ (v : Cluster). v.metadata.awaited) c.self.view_is) ∙ c.in-None.is in
    let wanted = sym (ap (λ (v : Cluster). v.metadata.wanted) c.self.view_is) ∙ c.if-not-metadata.false in
    let any : list_any is_open c.args.self.now.slots ≡ true =
    sym (ap (list_any is_open) (c.deref.ensures.value ∙ ap (λ (v : Cluster). v.slots) c.self.view_is)) ∙ sym c.is_any_open.ensures ∙ c.if-is_any_open.true in
    ap Some (c.pause_end.ensures ∙ ap (λ (v : Cluster). pause_end v.metadata.asked_at) c.self.view_is)
    ∙ next_of_open true c.args.self.now awaited wanted any

pub returns-in-None-3 : goal.returns-in-None-3
returns-in-None-3 c =
    let awaited = sym (ap (λ (v : Cluster). v.metadata.awaited) c.self.view_is) ∙ c.in-None.is in
    let wanted = sym (ap (λ (v : Cluster). v.metadata.wanted) c.self.view_is) ∙ c.if-not-metadata.false in
    let closed : list_any is_open c.args.self.now.slots ≡ false =
    sym (ap (list_any is_open) (c.deref.ensures.value ∙ ap (λ (v : Cluster). v.slots) c.self.view_is)) ∙ sym c.is_any_open.ensures ∙ c.if-is_any_open.false in
    next_of_open false c.args.self.now awaited wanted closed
