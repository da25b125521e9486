use Rattle.std.proofs.Common.{List, ◌++◌, ◌∙◌, ℕ, sym, ap, refl, subst, append-nil}
use Rattle.futures.specs.Poll.{OnPending}
use Rattle.futures.specs.declared.task.Poll.{Poll}
use Rattle.futures.specs.declared.task.Poll.TheVariants.{Ready}
use Rattle.kp_engine.specs.Engine.{line_after}
use Rattle.kp_engine.specs.declared.engine.Line.TheVariants.{Stopped}
use Rattle.kp_engine.specs.declared.stop.Stop.{Stop}
use Rattle.kp_engine.proofs.EngineLemmas.{made_none, made_turn}
use Rattle.kp_engine.proofs.engine.Engine.poll_turn.Goals as goal

pub returns-in-Stopped-clause-polls : goal.returns-in-Stopped-clause-polls
returns-in-Stopped-clause-polls g c =
    let p = made_none g.S.Stream.answers c.args.self.now.line c.in-Stopped.stop c.in-Stopped.is 0 c.args.self.now.exchange c.clear.new.self (Ready c.in-Stopped.stop) (Stopped c.in-Stopped.stop) c.clear.ensures refl refl in
    record { polls = p.0; told = sym (append-nil (g.C.Clock.moments c.args.self.now.clock)) ∙ ap (λ (ms : List ℕ). g.C.Clock.moments c.args.self.now.clock ++ ms) (sym p.2); node = p.1 }

pub returns-in-Ready-clause-polls : goal.returns-in-Ready-clause-polls
returns-in-Ready-clause-polls g c =
    let p = made_turn g.S.Stream.answers c.args.self.now.line c.in-Open.wire c.in-Open.is 0 c.now-now.result c.args.self.now.exchange c.clear.new.self c.turn-polled.new.exchange c.turn-polled.result c.turn-polled.new.wire _
    c.clear.ensures c.turn-polled.ensures.turns c.turn-polled.ensures.undone (ap (λ (r : Poll Stop). line_after r c.turn-polled.new.wire) (sym c.in-Ready.is)) in
    record { polls = p.0; told = c.now-now.ensures ∙ ap (λ (ms : List ℕ). g.C.Clock.moments c.args.self.now.clock ++ ms) (sym p.2); node = p.1 }

pub returns-in_default-clause-polls : goal.returns-in_default-clause-polls
returns-in_default-clause-polls g c =
    let p = made_turn g.S.Stream.answers c.args.self.now.line c.in-Open.wire c.in-Open.is 0 c.now-now.result c.args.self.now.exchange c.clear.new.self c.turn-polled.new.exchange c.turn-polled.result c.turn-polled.new.wire _
    c.clear.ensures c.turn-polled.ensures.turns c.turn-polled.ensures.undone (ap (λ (r : Poll Stop). line_after r c.turn-polled.new.wire) (sym c.in_default.is)) in
    record { polls = p.0; told = c.now-now.ensures ∙ ap (λ (ms : List ℕ). g.C.Clock.moments c.args.self.now.clock ++ ms) (sym p.2); node = p.1 }

pub returns-in-Ready-clause-registered : goal.returns-in-Ready-clause-registered
returns-in-Ready-clause-registered g c = subst (λ (r : Poll Stop). OnPending r (Unit {0})) (sym c.in-Ready.is) tt

pub returns-in-Ready-clause-kept : goal.returns-in-Ready-clause-kept
returns-in-Ready-clause-kept g c = c.turn-polled.ensures.kept

pub returns-in_default-clause-registered : goal.returns-in_default-clause-registered
returns-in_default-clause-registered g c = c.turn-polled.ensures.registered

pub returns-in_default-clause-kept : goal.returns-in_default-clause-kept
returns-in_default-clause-kept g c = c.turn-polled.ensures.kept
