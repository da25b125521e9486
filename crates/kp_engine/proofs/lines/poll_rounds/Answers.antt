use Rattle.std.proofs.Common.{◌<◌, arith, get_or, length, subst}
use Rattle.std.proofs.lemmas.List.{drop_more, take_all}
use Rattle.kp_engine.proofs.LineLemmas.{AllWake, all_had_one, carries_on, ends_here, one_wakes_more}
use Rattle.kp_engine.proofs.lines.poll_rounds.Goals as goal

pub loop-line-init : goal.loop-line-init
loop-line-init g c = record {
  carries = λ last z ms all. all;
  keeps = λ fact h. h;
  wake = tt;
}

pub returns-in-Err-clause-rounds : goal.returns-in-Err-clause-rounds
returns-in-Err-clause-rounds g c =
    let there : c.loop-line.line-index < length c.loop-line.lines = omega arith in
    ends_here g.S.Stream.answers c.args.now c.args.exchange.now c.args.lines.now c.loop-line.exchange c.loop-line.lines c.loop-line.line-index c.loop-line.invariant.carries c.poll_round.new.exchange
    (get_or c.loop-line.lines c.loop-line.line-index c.line-item.result) c.poll_round.new.self there (drop_more c.loop-line.lines c.loop-line.line-index c.line-item.result there)
    c.in-Err.refused c.in-Err.ensures.round

pub returns-in-Err-clause-kept : goal.returns-in-Err-clause-kept
returns-in-Err-clause-kept g c = λ fact h. c.poll_round.ensures.kept fact (c.loop-line.invariant.keeps fact h)

pub loop-line-preserved : goal.loop-line-preserved
loop-line-preserved g c =
    let there : c.loop-line.line-index < length c.loop-line.lines = omega arith in
    record {
      carries = carries_on g.S.Stream.answers c.args.now c.args.exchange.now c.args.lines.now c.loop-line.exchange c.loop-line.lines c.loop-line.line-index c.loop-line.invariant.carries c.poll_round.new.exchange
          (get_or c.loop-line.lines c.loop-line.line-index c.line-item.result) c.poll_round.new.self there (drop_more c.loop-line.lines c.loop-line.line-index c.line-item.result there)
          c.in-Ok.ensures.round;
      keeps = λ fact h. c.poll_round.ensures.kept fact (c.loop-line.invariant.keeps fact h);
      wake = one_wakes_more g.S.Stream.reader c.loop-line.cx c.poll_round.new.cx c.loop-line.lines c.loop-line.line-index c.poll_round.new.self there c.poll_round.ensures.kept c.loop-line.invariant.wake
          c.in-Ok.ensures.registered;
    }

pub returns-clause-rounds : goal.returns-clause-rounds
returns-clause-rounds g c =
    all_had_one g.S.Stream.answers c.args.now c.args.exchange.now c.args.lines.now c.loop-line.exchange c.loop-line.lines c.loop-line.line-index c.loop-line.invariant.carries
    (omega (arith, c.loop-line-test.false, c.loop-line.auto.lines))

pub returns-clause-kept : goal.returns-clause-kept
returns-clause-kept g c = c.loop-line.invariant.keeps

pub returns-clause-registered : goal.returns-clause-registered
returns-clause-registered g c =
    subst (AllWake g.S.Stream.reader c.loop-line.cx) (take_all c.loop-line.line-index c.loop-line.lines (omega (arith, c.loop-line-test.false, c.loop-line.auto.lines))) c.loop-line.invariant.wake

pub returns-in-Err-clause-registered : goal.returns-in-Err-clause-registered
returns-in-Err-clause-registered g c = tt
