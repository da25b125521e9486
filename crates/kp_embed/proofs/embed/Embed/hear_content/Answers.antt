use Rattle.std.proofs.Common.{◌≡◌, [], ◌∷◌, Option, Some, None, refl, sym, ap, ◌∙◌, subst}
use Rattle.kp_embed.specs.Hearing.{HearsOne, HearsOver, answered}
use Rattle.kp_embed.specs.Producer.{Producer}
use Rattle.kp_embed.specs.declared.line.Question.{Question}
use Rattle.kp_embed.specs.declared.line.Question.TheVariants.{ProducerId}
use Rattle.kp_embed.proofs.ActLemmas.{made, on_ok}
use Rattle.kp_embed.proofs.embed.Embed.hear_content.Goals as goal
use Rattle.kp_rules.specs.Calls.{Reply}

pub returns-in-None-clause-heard : goal.returns-in-None-clause-heard
returns-in-None-clause-heard c =
    let line = c.args.line.now in
    let content = c.args.content.now in
    let none : answered line.question content ≡ None = sym c.answered_by.ensures ∙ c.in-None.is in
    on_ok c.reply.result c.reply.ensures.heard (λ heard.
    let calls = Reply c.args.now content heard.0 ∷ [] in record {
      calls = calls;
      acts = heard.1;
      heard = subst (λ (x : Option Question). HearsOne c.args.now line.question x content c.args.self.now calls c.reply.new.self line.question) (sym none) (refl, (heard.0, refl));
      held = refl;
      out = refl;
    })

pub returns-in-Some-ProducerId-clause-heard : goal.returns-in-Some-ProducerId-clause-heard
returns-in-Some-ProducerId-clause-heard c =
    let i = c.self.inside in
    let a = made i.is_failed i.is_closed i.config.producer i.names i.core i.counts.items i.lines i.cluster in
    let line = c.args.line.now in
    let content = c.args.content.now in
    let b = c.open.new.self in
    let it : answered line.question content ≡ Some ProducerId = sym c.answered_by.ensures ∙ c.in-Some-ProducerId.is ∙ ap (λ (q : Question). Some q) c.in-Some-ProducerId.field-0-is in
    on_ok c.open.result c.open.ensures.opens (λ opened.
    subst (λ (p : Producer). HearsOver c.args.now p line content b (record { question = None; out = line.out; held = line.held })) c.self.view_is (record {
      calls = opened.0;
      acts = opened.1;
      heard = subst (λ (x : Option Question). HearsOne c.args.now line.question x content a opened.0 b None) (sym it) (refl, opened.2);
      held = refl;
      out = refl;
    }))
