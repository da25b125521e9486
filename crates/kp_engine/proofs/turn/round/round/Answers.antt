use Rattle.std.proofs.Common.{◌∙◌, ◌≤◌, None, Ok, Some, sym, subst, Bool, arith}
use Rattle.std.specs.Prelude.{Option}
use Rattle.kp_frames.specs.declared.fault.FrameFault.TheVariants.{Mismatch}
use Rattle.kp_rules.specs.Tick.{has_timed_out}
use Rattle.kp_engine.specs.Polls.{TalksAll}
use Rattle.kp_engine.specs.Rounds.{IsCut, Rounds}
use Rattle.kp_engine.specs.declared.stop.Cause.{Cause}
use Rattle.kp_engine.specs.declared.stop.Cause.TheVariants.{BadReply}
use Rattle.kp_engine.specs.declared.strays.TheConstants.{STRAY_LIMIT}
use Rattle.kp_engine.proofs.RoundLemmas.{given_up}
use Rattle.kp_engine.proofs.turn.round.round.Goals as goal

pub returns-in_default-clause-rounds : goal.returns-in_default-clause-rounds
returns-in_default-clause-rounds g c = record {
  calls = _;
  told = _;
  round = Rounds.no_talk c.talk.new.exchange c.talk.new.wire c.in_default.ensures.talks;
}

pub returns-in-None-clause-rounds : goal.returns-in-None-clause-rounds
returns-in-None-clause-rounds g c =
    let talks : TalksAll g.S.Stream.answers c.args.most c.args.node c.args.now c.is_late-late.result c.args.exchange.now c.args.wire.now (Ok None) c.talk.new.exchange c.talk.new.wire =
    subst (λ (cut : Option Cause). TalksAll g.S.Stream.answers c.args.most c.args.node c.args.now c.is_late-late.result c.args.exchange.now c.args.wire.now (Ok cut) c.talk.new.exchange c.talk.new.wire) c.in-None.is c.in-Ok.ensures.talks in
    record {
      calls = _;
      told = _;
      round = Rounds.goes_on c.talk.new.exchange c.talk.new.wire (sym c.is_late-late.ensures ∙ talks.0) talks.1 (omega arith);
    }

pub returns-in-None-2-clause-rounds : goal.returns-in-None-2-clause-rounds
returns-in-None-2-clause-rounds g c =
    let talks : TalksAll g.S.Stream.answers c.args.most c.args.node c.args.now c.is_late-late.result c.args.exchange.now c.args.wire.now (Ok None) c.talk.new.exchange c.talk.new.wire =
    subst (λ (cut : Option Cause). TalksAll g.S.Stream.answers c.args.most c.args.node c.args.now c.is_late-late.result c.args.exchange.now c.args.wire.now (Ok cut) c.talk.new.exchange c.talk.new.wire) c.in-None-2.is c.in-Ok.ensures.talks in
    let many : STRAY_LIMIT ≤ c.talk.new.exchange.notes.strays = omega arith in
    given_up g.S.Stream.answers c.args.most c.args.node c.args.now c.args.exchange.now c.args.wire.now _ _ (BadReply Mismatch) c.talk.new.exchange c.talk.new.wire
    (IsCut.by_strays c.talk.new.exchange c.talk.new.wire (sym c.is_late-late.ensures ∙ talks.0) talks.1 many) c.give_up.result c.give_up.new.exchange c.give_up.ensures.drops c.give_up.ensures.refused

pub returns-in-Some-clause-rounds : goal.returns-in-Some-clause-rounds
returns-in-Some-clause-rounds g c =
    let late = has_timed_out c.args.node c.args.now c.args.exchange.now.core in
    let talks : TalksAll g.S.Stream.answers c.args.most c.args.node c.args.now late c.args.exchange.now c.args.wire.now (Ok (Some c.in-Some.cause)) c.talk.new.exchange c.talk.new.wire =
    subst (λ (cut : Option Cause). TalksAll g.S.Stream.answers c.args.most c.args.node c.args.now late c.args.exchange.now c.args.wire.now (Ok cut) c.talk.new.exchange c.talk.new.wire) c.in-Some.is
    (subst (λ (b : Bool). TalksAll g.S.Stream.answers c.args.most c.args.node c.args.now b c.args.exchange.now c.args.wire.now (Ok c.in-Ok.cut) c.talk.new.exchange c.talk.new.wire) c.is_late-late.ensures c.in-Ok.ensures.talks) in
    given_up g.S.Stream.answers c.args.most c.args.node c.args.now c.args.exchange.now c.args.wire.now _ _ c.in-Some.cause c.talk.new.exchange c.talk.new.wire
    (IsCut.by_talk c.in-Some.cause c.talk.new.exchange c.talk.new.wire talks) c.give_up-in-Some.result c.give_up-in-Some.new.exchange c.give_up-in-Some.ensures.drops c.give_up-in-Some.ensures.refused
