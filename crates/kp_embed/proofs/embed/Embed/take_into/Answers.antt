use Rattle.std.proofs.Common.{ℕ, List, [], take, Option, Some, refl, sym, ap, ◌∙◌, subst}
use Rattle.std.specs.Prelude.{Result, IfOk}
use Rattle.kp_embed.specs.Going.{Acts}
use Rattle.kp_embed.specs.Lines.{AtNode}
use Rattle.kp_embed.specs.Producer.{Producer}
use Rattle.kp_embed.specs.Taking.{CarriesNone, CarriesOut}
use Rattle.kp_embed.specs.declared.fault.Fault.{Fault}
use Rattle.kp_embed.specs.declared.line.Line.{Line}
use Rattle.kp_embed.proofs.ActLemmas.{acts_idly, made}
use Rattle.kp_embed.proofs.AskLemmas.{with_out}
use Rattle.kp_embed.proofs.TakeLemmas.{carried, carried_nothing}
use Rattle.kp_embed.proofs.embed.Embed.take_into.Goals.{in-Ok, in-Err}
use Rattle.kp_embed.proofs.embed.Embed.take_into.Goals as goal

pub returns-in_default-clause-refused : goal.returns-in_default-clause-refused
returns-in_default-clause-refused c =
    let i = c.self.inside in
    subst (λ (a : Producer). CarriesNone c.args.node c.args.now a (made i.is_failed i.is_closed i.config.producer i.names i.core i.counts.items c.take.new.self i.cluster)) c.self.view_is
    (carried_nothing c.args.node c.args.now (made i.is_failed i.is_closed i.config.producer i.names i.core i.counts.items i.lines i.cluster) (made i.is_failed i.is_closed i.config.producer i.names i.core i.counts.items c.take.new.self i.cluster) (acts_idly (made i.is_failed i.is_closed i.config.producer i.names i.core i.counts.items i.lines i.cluster) (made i.is_failed i.is_closed i.config.producer i.names i.core i.counts.items c.take.new.self i.cluster) refl refl refl refl) (sym c.take.ensures.taken ∙ c.in_default.is) c.take.ensures.left)

pub returns-clause-takes : goal.returns-clause-takes
returns-clause-takes c =
    let i = c.self.inside in
    let j = c.self-2.inside in
    let a = (made i.is_failed i.is_closed i.config.producer i.names i.core i.counts.items i.lines i.cluster) in
    let taken = (made i.is_failed i.is_closed i.config.producer i.names i.core i.counts.items c.take.new.self i.cluster) in
    let m = c.ask_next.new.self in
    let b = (made j.is_failed j.is_closed j.config.producer j.names j.core j.counts.items c.put.new.self j.cluster) in
    let line = c.in-Some.line in
    let asked = c.ask_next.new.line in
    let was = sym c.take.ensures.taken ∙ c.in-Some.is in
    let still : Acts m [] b = acts_idly m b (ap (λ (p : Producer). p.config) c.self-2.view_is) (ap (λ (p : Producer). p.names) c.self-2.view_is) (ap (λ (p : Producer). p.core) c.self-2.view_is) (ap (λ (p : Producer). p.counts) c.self-2.view_is) in
    let put = subst (λ (ls : List (Option Line)). AtNode c.args.node (Some c.match-ask_next.line) ls c.put.new.self) (ap (λ (p : Producer). p.lines) c.self-2.view_is) c.put.ensures.put in
    elim c.match-ask_next.branch [
      | in-Ok w ↦
          let n = w.take_into.result in
          let room = w.take_into.new.room in
          let rest = w.line-is ∙ ap (λ (xs : List ℕ). with_out xs asked) w.take_into.ensures.rest in
          subst (λ (r : Result ℕ Fault). IfOk r (λ k. CarriesOut c.args.node c.args.now c.args.self.now (take k c.match-ask_next.room) b)) (sym w.taken-is)
          (subst (λ (xs : List ℕ). CarriesOut c.args.node c.args.now c.args.self.now (take n xs) b) (sym w.room-is)
          (subst (λ (p : Producer). CarriesOut c.args.node c.args.now p (take n room) b) c.self.view_is
          (carried c.args.node c.args.now a taken m b line asked c.match-ask_next.line n c.args.room.now room (acts_idly a taken refl refl refl refl) refl still was c.take.ensures.left w.in-Ok.ensures.asks
          c.ask_next.ensures.lines w.take_into.ensures.count w.take_into.ensures.taken rest put)))
      | in-Err w ↦ subst (λ (r : Result ℕ Fault). IfOk r (λ k. CarriesOut c.args.node c.args.now c.args.self.now (take k c.match-ask_next.room) b)) (sym w.taken-is) tt
    ]
