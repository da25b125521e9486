use Rattle.std.proofs.Common.{[], ℕ, List, Option, length, sym, ap, ◌∙◌, subst}
use Rattle.kp_embed.proofs.ActLemmas.{acts_then, begins_then}
use Rattle.kp_cluster.specs.Cluster.{Cluster}
use Rattle.kp_embed.specs.Going.{BeginsUnder, if_core}
use Rattle.kp_embed.specs.Hearing.{leads}
use Rattle.kp_embed.proofs.embed.Embed.begin.Goals as goal

pub returns-in-Ok-clause-begins : goal.returns-in-Ok-clause-begins
returns-in-Ok-clause-begins c = acts_then c.args.self.now c.ensure_core.new.self c.lead.new.self [] _ c.in-Ok.ensures.acts c.lead.ensures.leads

pub returns-in-Ok-clause-under : goal.returns-in-Ok-clause-under
returns-in-Ok-clause-under c = λ none early.
    let a = c.args.self.now in
    let m = c.ensure_core.new.self in
    let b = c.lead.new.self in
    let calls = if_core b.core (leads c.args.now b.cluster (length b.counts)) in
    let same = ap (λ (x : Cluster). x.leaders) (sym c.in-Ok.ensures.cluster) ∙ sym c.lead.ensures.leaders in
    subst (λ (leaders : List (Option ℕ)). BeginsUnder a.config a.names (length leaders) c.args.producer_id calls b.core) same
    (begins_then a.config m.config a.names m.names m.core b.core (length a.cluster.leaders) c.args.producer_id calls (c.in-Ok.ensures.under none early) c.lead.ensures.leads.core)
