use Rattle.std.proofs.Common.{[], ◌∷◌, Some, refl, ap, subst}
use Rattle.std.specs.Prelude.{Ok, Err}
use Rattle.kp_embed.specs.Going.{Acts}
use Rattle.kp_embed.specs.Producer.{Producer}
use Rattle.kp_embed.proofs.ActLemmas.{acts_one, made}
use Rattle.kp_embed.proofs.embed.Embed.reply.Goals as goal
use Rattle.kp_rules.specs.Calls.{Reply}

pub returns-in-Ok-clause-heard : goal.returns-in-Ok-clause-heard
returns-in-Ok-clause-heard c =
    let i = c.self.inside in
    let b = c.look_again.new.self in
    let same = c.look_again.ensures in
    let call = Reply c.args.now c.args.content.now (Ok c.in-Ok.replied) in (
      Ok c.in-Ok.replied,
      subst (λ (a : Producer). Acts a (call ∷ []) b) c.self.view_is
          (acts_one (made i.is_failed i.is_closed i.config.producer i.names i.core i.counts.items i.lines i.cluster) b c.in-Some.core c.on_reply.new.self call (ap (λ (p : Producer). p.config) same) (ap (λ (p : Producer). p.names) same) c.in-Some.is c.in-Ok.ensures
          (ap (λ (p : Producer). p.core) same) (ap (λ (p : Producer). p.counts) same) tt),
    )

pub returns-in-Err-Ended-clause-heard : goal.returns-in-Err-Ended-clause-heard
returns-in-Err-Ended-clause-heard c =
    let i = c.self.inside in
    let call = Reply c.args.now c.args.content.now (Err c.in-Err-Ended.field-0) in (
      Err c.in-Err-Ended.field-0,
      subst (λ (a : Producer). Acts a (call ∷ []) (made i.is_failed i.is_closed i.config.producer i.names (Some c.on_reply.new.self) i.counts.items i.lines i.cluster)) c.self.view_is
          (acts_one (made i.is_failed i.is_closed i.config.producer i.names i.core i.counts.items i.lines i.cluster) (made i.is_failed i.is_closed i.config.producer i.names (Some c.on_reply.new.self) i.counts.items i.lines i.cluster) c.in-Some.core c.on_reply.new.self call refl refl c.in-Some.is c.in-Err-Ended.ensures refl refl tt),
    )

pub returns-in-Err : goal.returns-in-Err
returns-in-Err c =
    let i = c.self.inside in
    let call = Reply c.args.now c.args.content.now (Err c.in-Err.fault) in record {
      heard = tt;
      acts = (
        call ∷ [],
        subst (λ (a : Producer). Acts a (call ∷ []) (made i.is_failed i.is_closed i.config.producer i.names (Some c.on_reply.new.self) i.counts.items i.lines i.cluster)) c.self.view_is
            (acts_one (made i.is_failed i.is_closed i.config.producer i.names i.core i.counts.items i.lines i.cluster) (made i.is_failed i.is_closed i.config.producer i.names (Some c.on_reply.new.self) i.counts.items i.lines i.cluster) c.in-Some.core c.on_reply.new.self call refl refl c.in-Some.is c.in-Err.ensures refl refl tt),
      );
      lines = ap (λ (p : Producer). p.lines) c.self.view_is;
      still = ap (λ (p : Producer). p.is_closed) c.self.view_is;
    }
