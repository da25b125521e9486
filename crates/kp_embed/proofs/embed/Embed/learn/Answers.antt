use Rattle.std.proofs.Common.{◌≡◌, ℕ, List, [], length, refl, sym, ap, subst}
use Rattle.std.specs.Prelude.{Result, Ok, Err}
use Rattle.kp_embed.specs.Going.{Acts, if_core}
use Rattle.kp_embed.specs.Hearing.{Learns, leads}
use Rattle.kp_embed.specs.Producer.{Producer}
use Rattle.kp_embed.proofs.ActLemmas.{acts_idly, made, on_err, on_ok}
use Rattle.kp_embed.proofs.embed.Embed.learn.Goals as goal
use Rattle.kp_hello.specs.Chart.{Charted, Gives, chart_given, seen}
use Rattle.kp_hello.specs.declared.fault.HandshakeFault.{HandshakeFault}
use Rattle.kp_rules.specs.Calls.{Call}

-- what was learned by this producer
abbrev Learned : Producer → List ℕ → ℕ → Producer → Type 0
Learned a content now b = (calls : List Call) × Acts a calls b × Learns now (chart_given a.names.topic content) calls b

pub returns-in-Ok-clause-learns : goal.returns-in-Ok-clause-learns
returns-in-Ok-clause-learns c =
    let b = c.follow.new.self in
    let calls = if_core b.core (leads c.args.now b.cluster (length b.counts)) in
    let given = subst (λ (a : Producer). chart_given a.names.topic c.args.content.now ≡ Ok (seen c.in-Ok.chart)) c.self.view_is c.in-Ok.ensures in
    on_ok c.follow.result c.follow.ensures.follows
    (λ acts. (calls, acts, subst (λ (g : Result Charted HandshakeFault). Learns c.args.now g calls b) (sym given) refl))

pub returns-in-Ok-clause-acts : goal.returns-in-Ok-clause-acts
returns-in-Ok-clause-acts c = on_err c.follow.result c.follow.ensures.acts (λ acts. ([], acts))

pub returns-in-Err-Refused-clause-learns : goal.returns-in-Err-Refused-clause-learns
returns-in-Err-Refused-clause-learns c =
    let i = c.self.inside in
    let given = subst (λ (f : HandshakeFault). Gives seen (Err f) (chart_given i.names.topic c.args.content.now)) c.in-Err-Refused.field-0-is c.in-Err-Refused.ensures in
    subst (λ (a : Producer). Learned a c.args.content.now c.args.now (made i.is_failed i.is_closed i.config.producer i.names i.core i.counts.items i.lines c.refuse_chart.new.self)) c.self.view_is
    ([], acts_idly (made i.is_failed i.is_closed i.config.producer i.names i.core i.counts.items i.lines i.cluster) (made i.is_failed i.is_closed i.config.producer i.names i.core i.counts.items i.lines c.refuse_chart.new.self) refl refl refl refl, subst (λ (g : Result Charted HandshakeFault). Learns c.args.now g [] (made i.is_failed i.is_closed i.config.producer i.names i.core i.counts.items i.lines c.refuse_chart.new.self)) (sym given) refl)

pub returns-in-Err : goal.returns-in-Err
returns-in-Err c =
    let i = c.self.inside in record {
      learns = tt;
      acts = ([], subst (λ (a : Producer). Acts a [] (made i.is_failed i.is_closed i.config.producer i.names i.core i.counts.items i.lines c.refuse_chart-in-Err.new.self)) c.self.view_is (acts_idly (made i.is_failed i.is_closed i.config.producer i.names i.core i.counts.items i.lines i.cluster) (made i.is_failed i.is_closed i.config.producer i.names i.core i.counts.items i.lines c.refuse_chart-in-Err.new.self) refl refl refl refl));
      lines = ap (λ (p : Producer). p.lines) c.self.view_is;
      still = ap (λ (p : Producer). p.is_closed) c.self.view_is;
    }
