use Rattle.std.proofs.Common.{Bool, sym, subst}
use Rattle.kp_engine.specs.Polls.{TalksAll}
use Rattle.kp_engine.proofs.TalkingLemmas.{too_late}
use Rattle.kp_engine.proofs.turn.talk.Goals as goal

pub returns-then-late-clause-talks : goal.returns-then-late-clause-talks
returns-then-late-clause-talks g c = too_late g.S.Stream.answers g.met.S.Stream.answers_nothing c.args.most c.args.node c.args.now c.args.late c.args.exchange.now c.args.wire.now c.if-late.true

pub returns-clause-talks : goal.returns-clause-talks
returns-clause-talks g c = subst (λ (b : Bool). TalksAll g.S.Stream.answers c.args.most c.args.node c.args.now b c.args.exchange.now c.args.wire.now c.converse.result c.converse.new.exchange c.converse.new.wire) (sym c.if-late.false) c.converse.ensures.talks
