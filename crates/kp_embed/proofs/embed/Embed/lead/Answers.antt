use Rattle.std.proofs.Common.{ℕ, List, length, Option, Some, refl, sym, ◌∙◌, subst}
use Rattle.kp_embed.specs.Going.{Acts, Becomes, if_core}
use Rattle.kp_embed.specs.Hearing.{leads}
use Rattle.kp_embed.specs.Producer.{Producer}
use Rattle.kp_embed.proofs.ActLemmas.{acts_becoming, acts_same, leads_append_nothing, leads_are_taken, leads_alike, made}
use Rattle.kp_embed.proofs.embed.Embed.lead.Goals as goal
use Rattle.kp_rules.specs.Calls.{Call}
use Rattle.kp_rules.specs.Records.{Core}

pub returns-in-Some-clause-leads : goal.returns-in-Some-clause-leads
returns-in-Some-clause-leads c =
    let i = c.self.inside in
    let n = length i.counts.items in
    let told = leads c.args.now c.want_all.new.cluster n in
    let called : Becomes c.in-Some.core (leads c.args.now i.cluster n) c.lead_all.new.core = subst (λ (k : ℕ). Becomes c.in-Some.core (leads c.args.now i.cluster k) c.lead_all.new.core) (c.len.ensures ∙ i.counts.ok.0) c.lead_all.ensures in
    let becomes = subst (λ (calls : List Call). Becomes c.in-Some.core calls c.lead_all.new.core) (leads_alike c.args.now i.cluster c.want_all.new.cluster n c.want_all.ensures) called in
    subst (λ (a : Producer). Acts a told (made i.is_failed i.is_closed i.config.producer i.names (Some c.lead_all.new.core) i.counts.items i.lines c.want_all.new.cluster)) c.self.view_is
    (acts_becoming (made i.is_failed i.is_closed i.config.producer i.names i.core i.counts.items i.lines i.cluster) (made i.is_failed i.is_closed i.config.producer i.names (Some c.lead_all.new.core) i.counts.items i.lines c.want_all.new.cluster) c.in-Some.core c.lead_all.new.core told refl refl c.in-Some.is becomes refl refl (leads_append_nothing c.args.now c.want_all.new.cluster n) (leads_are_taken c.args.now c.want_all.new.cluster n))

pub returns-in_default-clause-leads : goal.returns-in_default-clause-leads
returns-in_default-clause-leads c =
    let i = c.self.inside in
    let calls = leads c.args.now i.cluster (length i.counts.items) in
    subst (λ (a : Producer). Acts a (if_core i.core calls) (made i.is_failed i.is_closed i.config.producer i.names i.core i.counts.items i.lines i.cluster)) c.self.view_is
    (subst (λ (s : Option Core). Acts (made i.is_failed i.is_closed i.config.producer i.names i.core i.counts.items i.lines i.cluster) (if_core s calls) (made i.is_failed i.is_closed i.config.producer i.names i.core i.counts.items i.lines i.cluster)) (sym c.in_default.is) (acts_same (made i.is_failed i.is_closed i.config.producer i.names i.core i.counts.items i.lines i.cluster)))
