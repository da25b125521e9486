use Rattle.std.proofs.Common.{◌∙◌, sym, ap}
use Rattle.kp_cluster.specs.Cluster.{Cluster, chart_refused}
use Rattle.kp_cluster.specs.Metadata.{is_late, is_aged}
use Rattle.kp_cluster.proofs.ClusterLemmas.{heeds_late, heeds_in_time, heeds_aged, heeds_young}
use Rattle.kp_cluster.proofs.cluster.Cluster.heed.Goals as goal

pub returns-then-is_past_or : goal.returns-then-is_past_or
returns-then-is_past_or c =
    let awaited = sym (ap (λ (v : Cluster). v.metadata.awaited) c.self.view_is) ∙ c.in-Some.is in
    let late = sym (c.is_past_or.ensures ∙ ap (is_late c.args.now) c.self.view_is) ∙ c.if-is_past_or.true in
    c.refuse_chart.ensures ∙ ap chart_refused c.give_up.ensures ∙ heeds_late c.args.now c.in-Some.node c.args.self.now awaited late

pub returns-else-is_past_or : goal.returns-else-is_past_or
returns-else-is_past_or c =
    let awaited = sym (ap (λ (v : Cluster). v.metadata.awaited) c.self.view_is) ∙ c.in-Some.is in
    let late = sym (c.is_past_or.ensures ∙ ap (is_late c.args.now) c.self.view_is) ∙ c.if-is_past_or.false in
    heeds_in_time c.args.now c.in-Some.node c.args.self.now awaited late

pub returns-then-is_past_or-2 : goal.returns-then-is_past_or-2
returns-then-is_past_or-2 c =
    let awaited = sym (ap (λ (v : Cluster). v.metadata.awaited) c.self.view_is) ∙ c.in-None.is in
    let aged = sym (c.is_past_or-in-None.ensures ∙ ap (is_aged c.args.now) c.self.view_is) ∙ c.if-is_past_or-2.true in
    c.ask_again.ensures ∙ heeds_aged c.args.now c.args.self.now awaited aged

pub returns-else-is_past_or-2 : goal.returns-else-is_past_or-2
returns-else-is_past_or-2 c =
    let awaited = sym (ap (λ (v : Cluster). v.metadata.awaited) c.self.view_is) ∙ c.in-None.is in
    let aged = sym (c.is_past_or-in-None.ensures ∙ ap (is_aged c.args.now) c.self.view_is) ∙ c.if-is_past_or-2.false in
    heeds_young c.args.now c.args.self.now awaited aged
