use Rattle.std.proofs.Common.{ℕ, List, Some, refl, sym, ap, ◌∙◌, subst}
use Rattle.std.specs.Prelude.{Option, Result, Ok, OnErr, OnOk}
use Rattle.kp_embed.specs.Producer.{Producer}
use Rattle.kp_embed.specs.Taking.{AsksNext, AsksNone}
use Rattle.kp_embed.specs.declared.fault.Fault.{Fault}
use Rattle.kp_embed.specs.declared.line.Line.{Line}
use Rattle.kp_embed.proofs.ActLemmas.{made}
use Rattle.kp_embed.proofs.AskLemmas.{asks_idle, asks_refused, asks_request, refused_none, with_out}
use Rattle.kp_embed.proofs.embed.Embed.ask_core.Goals.{in-Ok-Some, in-Ok-None, in-Err-Ended, in-Err-CorrelationSpent, in-Err}
use Rattle.kp_embed.proofs.embed.Embed.ask_core.Goals as goal
use Rattle.kp_rules.specs.declared.outgoing.Outgoing.{Outgoing}
use Rattle.kp_rules.specs.Calls.{Request, Step}

pub returns-clause-asks : goal.returns-clause-asks
returns-clause-asks c =
    let i = c.self.inside in
    let line = c.args.line.now in
    let ok = λ (r : Result (Unit {0}) Fault). OnOk r (AsksNext c.args.node c.args.now c.args.self.now line (made i.is_failed i.is_closed i.config.producer i.names (Some c.next_request.new.self) i.counts.items i.lines i.cluster) c.match-next_request.line) in
    let to = λ (l : Line). AsksNext c.args.node c.args.now c.args.self.now line (made i.is_failed i.is_closed i.config.producer i.names (Some c.next_request.new.self) i.counts.items i.lines i.cluster) l in
    let from = λ (l : Line) (a : Producer). AsksNext c.args.node c.args.now a line (made i.is_failed i.is_closed i.config.producer i.names (Some c.next_request.new.self) i.counts.items i.lines i.cluster) l in
    elim c.match-next_request.branch [
      | in-Ok-Some w ↦
          let o = w.in-Ok-Some.outgoing in
          let step = subst (λ (answer : Option Outgoing). Step c.in-Some.core (Request c.args.node c.args.now (Ok answer)) c.next_request.new.self) w.in-Ok-Some.field-0-is w.in-Ok-Some.ensures in
          let bytes = w.of.ensures ∙ w.into_vec.ensures in
          subst ok (sym w.result-is) (subst to (sym (w.line-is ∙ ap (λ (xs : List ℕ). with_out xs line) bytes))
          (subst (from (with_out o.bytes line)) c.self.view_is
          (asks_request c.args.node c.args.now (made i.is_failed i.is_closed i.config.producer i.names i.core i.counts.items i.lines i.cluster) (made i.is_failed i.is_closed i.config.producer i.names (Some c.next_request.new.self) i.counts.items i.lines i.cluster) line c.in-Some.core c.next_request.new.self o refl refl c.in-Some.is step refl refl c.requires.taken)))
      | in-Ok-None w ↦
          let step = subst (λ (answer : Option Outgoing). Step c.in-Some.core (Request c.args.node c.args.now (Ok answer)) c.next_request.new.self) w.in-Ok-None.field-0-is w.in-Ok-None.ensures in
          subst ok (sym w.result-is) (subst to (sym w.line-is) (subst (from line) c.self.view_is
          (asks_idle c.args.node c.args.now (made i.is_failed i.is_closed i.config.producer i.names i.core i.counts.items i.lines i.cluster) (made i.is_failed i.is_closed i.config.producer i.names (Some c.next_request.new.self) i.counts.items i.lines i.cluster) line c.in-Some.core c.next_request.new.self refl refl c.in-Some.is step refl refl c.requires.taken)))
      | in-Err-Ended w ↦
          subst ok (sym w.result-is) (subst to (sym w.line-is) (subst (from line) c.self.view_is
          (asks_refused c.args.node c.args.now (made i.is_failed i.is_closed i.config.producer i.names i.core i.counts.items i.lines i.cluster) (made i.is_failed i.is_closed i.config.producer i.names (Some c.next_request.new.self) i.counts.items i.lines i.cluster) line c.in-Some.core c.next_request.new.self w.in-Err-Ended.field-0 refl refl c.in-Some.is w.in-Err-Ended.ensures refl refl c.requires.taken)))
      | in-Err-CorrelationSpent w ↦
          subst ok (sym w.result-is) (subst to (sym w.line-is) (subst (from line) c.self.view_is
          (asks_refused c.args.node c.args.now (made i.is_failed i.is_closed i.config.producer i.names i.core i.counts.items i.lines i.cluster) (made i.is_failed i.is_closed i.config.producer i.names (Some c.next_request.new.self) i.counts.items i.lines i.cluster) line c.in-Some.core c.next_request.new.self w.in-Err-CorrelationSpent.field-0 refl refl c.in-Some.is w.in-Err-CorrelationSpent.ensures refl refl c.requires.taken)))
      | in-Err w ↦ subst ok (sym w.result-is) tt
    ]

pub returns-clause-none : goal.returns-clause-none
returns-clause-none c =
    let i = c.self.inside in
    let err = λ (r : Result (Unit {0}) Fault). OnErr r (AsksNone c.args.node c.args.now c.args.self.now (made i.is_failed i.is_closed i.config.producer i.names (Some c.next_request.new.self) i.counts.items i.lines i.cluster)) in
    elim c.match-next_request.branch [
      | in-Ok-Some w ↦ subst err (sym w.result-is) tt
      | in-Ok-None w ↦ subst err (sym w.result-is) tt
      | in-Err-Ended w ↦ subst err (sym w.result-is) tt
      | in-Err-CorrelationSpent w ↦ subst err (sym w.result-is) tt
      | in-Err w ↦
          subst err (sym w.result-is) (subst (λ (a : Producer). AsksNone c.args.node c.args.now a (made i.is_failed i.is_closed i.config.producer i.names (Some c.next_request.new.self) i.counts.items i.lines i.cluster)) c.self.view_is
          (refused_none c.args.node c.args.now (made i.is_failed i.is_closed i.config.producer i.names i.core i.counts.items i.lines i.cluster) (made i.is_failed i.is_closed i.config.producer i.names (Some c.next_request.new.self) i.counts.items i.lines i.cluster) c.in-Some.core c.next_request.new.self w.in-Err.fault refl refl c.in-Some.is w.in-Err.ensures refl refl))
    ]
