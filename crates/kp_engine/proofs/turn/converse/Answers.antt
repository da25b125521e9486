use Rattle.std.proofs.Common.{Bool, false, Ok, refl, subst}
use Rattle.kp_engine.specs.Talking.{WritesAll, WritesOn, WritesCut}
use Rattle.kp_engine.proofs.TalkingLemmas.{cut_by_write, out_in_requests, talked}
use Rattle.kp_engine.proofs.turn.converse.Goals as goal

pub returns-in-Err-clause-talks : goal.returns-in-Err-clause-talks
returns-in-Err-clause-talks g c = out_in_requests g.S.Stream.answers c.args.most c.args.node c.args.now c.args.exchange.now c.write_requests.new.exchange c.args.wire.now c.write_requests.new.wire c.requires.few c.in-Err.ensures.writes

pub returns-in-Ok-true-clause-talks : goal.returns-in-Ok-true-clause-talks
returns-in-Ok-true-clause-talks g c =
    let writes : WritesOn g.S.Stream.answers c.args.most c.args.node c.args.now c.args.exchange.now c.args.wire.now c.write_requests.new.exchange c.write_requests.new.wire =
    subst (λ (b : Bool). WritesAll g.S.Stream.answers c.args.most c.args.node c.args.now c.args.exchange.now c.args.wire.now (Ok b) c.write_requests.new.exchange c.write_requests.new.wire) c.in-Ok-true.field-0-test c.in-Ok-true.ensures.writes in
    talked g.S.Stream.answers g.met.S.Stream.answers_in_order c.args.most c.args.node c.args.now c.args.exchange.now c.write_requests.new.exchange c.listen.new.exchange c.args.wire.now c.write_requests.new.wire c.listen.new.wire c.requires.few writes
    false refl c.listen.result c.listen.ensures.listens

pub returns-in-Ok-false-clause-talks : goal.returns-in-Ok-false-clause-talks
returns-in-Ok-false-clause-talks g c =
    let writes : WritesCut g.S.Stream.answers c.args.most c.args.node c.args.now c.args.exchange.now c.args.wire.now c.write_requests.new.exchange c.write_requests.new.wire =
    subst (λ (b : Bool). WritesAll g.S.Stream.answers c.args.most c.args.node c.args.now c.args.exchange.now c.args.wire.now (Ok b) c.write_requests.new.exchange c.write_requests.new.wire) c.in-Ok-false.field-0-test c.in-Ok-false.ensures.writes in
    cut_by_write g.S.Stream.answers c.args.most c.args.node c.args.now c.args.exchange.now c.write_requests.new.exchange c.args.wire.now c.write_requests.new.wire c.requires.few writes
