use Rattle.std.proofs.Common.{List, Option, Some, inl, inr, refl, sym, ap, ◌∙◌, subst}
use Rattle.kp_embed.specs.Going.{Stays}
use Rattle.kp_embed.specs.Hearing.{GivesUp, Listens}
use Rattle.kp_embed.specs.Lines.{AtNode}
use Rattle.kp_embed.specs.Producer.{Producer, apart}
use Rattle.kp_embed.specs.declared.line.Line.{Line}
use Rattle.kp_embed.proofs.ActLemmas.{acts_idly, made}
use Rattle.kp_embed.proofs.HearLemmas.{given_up, listens_made}
use Rattle.kp_embed.proofs.LineLemmas.{none_taken}
use Rattle.kp_embed.proofs.embed.Embed.feed.Goals as goal

pub returns-in_default-clause-refused : goal.returns-in_default-clause-refused
returns-in_default-clause-refused c =
    let i = c.self.inside in
    inl (subst (λ (a : Producer). Stays a (made i.is_failed i.is_closed i.config.producer i.names i.core i.counts.items c.take.new.self i.cluster)) c.self.view_is (record {
      acts = acts_idly (made i.is_failed i.is_closed i.config.producer i.names i.core i.counts.items i.lines i.cluster) (made i.is_failed i.is_closed i.config.producer i.names i.core i.counts.items c.take.new.self i.cluster) refl refl refl refl;
      lines = none_taken c.args.node i.lines c.take.new.self (sym c.take.ensures.taken ∙ c.in_default.is) c.take.ensures.left;
    }))

pub returns-in-Ok-clause-listens : goal.returns-in-Ok-clause-listens
returns-in-Ok-clause-listens c =
    let i = c.self.inside in
    let j = c.self-in-Ok.inside in
    let m = c.hear_all.new.self in
    let b = (made j.is_failed j.is_closed j.config.producer j.names j.core j.counts.items c.put.new.self j.cluster) in
    let line = c.in-Some.line in
    let after = c.hear_all.new.line in
    let put = subst (λ (ls : List (Option Line)). AtNode c.args.node (Some after) ls c.put.new.self) (ap (λ (p : Producer). p.lines) c.self-in-Ok.view_is) c.put.ensures.put in
    subst (λ (p : Producer). Listens c.args.node c.args.now p c.args.bytes.now b) c.self.view_is
    (listens_made c.args.node c.args.now (made i.is_failed i.is_closed i.config.producer i.names i.core i.counts.items i.lines i.cluster) (made i.is_failed i.is_closed i.config.producer i.names i.core i.counts.items c.take.new.self i.cluster) m b line after c.args.bytes.now refl (sym c.take.ensures.taken ∙ c.in-Some.is) c.take.ensures.left c.in-Ok.ensures.heard c.hear_all.ensures.lines
    (sym (ap (λ (p : Producer). apart p) c.self-in-Ok.view_is)) put)

pub returns-in-Err-clause-refused : goal.returns-in-Err-clause-refused
returns-in-Err-clause-refused c =
    let i = c.self.inside in
    let a = (made i.is_failed i.is_closed i.config.producer i.names i.core i.counts.items i.lines i.cluster) in
    let m = c.hear_all.new.self in
    let b = c.give_up.new.self in
    inr (subst (λ (p : Producer). GivesUp c.args.node c.args.now p b) c.self.view_is
    (given_up c.args.node c.args.now a (made i.is_failed i.is_closed i.config.producer i.names i.core i.counts.items c.take.new.self i.cluster) m b (acts_idly a (made i.is_failed i.is_closed i.config.producer i.names i.core i.counts.items c.take.new.self i.cluster) refl refl refl refl) c.take.ensures.left c.in-Err.ensures.acts c.hear_all.ensures.lines c.give_up.ensures.loses))
