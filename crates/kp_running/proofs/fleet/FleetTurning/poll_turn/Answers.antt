use Rattle.std.proofs.Common.{ap, sym, refl, subst, ◌∙◌}
use Rattle.futures.specs.declared.task.Poll.{Poll}
use Rattle.kp_core.specs.Spent.{can_only_end}
use Rattle.kp_running.specs.Fleet.{FleetOnce, FleetPolls}
use Rattle.kp_running.specs.Over.{IfGivenUp, IsSpent}
use Rattle.kp_running.specs.declared.over.Over.{Over}
use Rattle.kp_running.proofs.FleetLemmas.{none_given_up, told_after}
use Rattle.kp_running.proofs.fleet.FleetTurning.poll_turn.Goals as goal

pub returns-then-can_only_end-clause-polls : goal.returns-then-can_only_end-clause-polls
returns-then-can_only_end-clause-polls g c =
    record { once = FleetOnce.used_up (ap (λ s. can_only_end s) (sym c.core.ensures) ∙ sym c.can_only_end.ensures ∙ c.if-can_only_end.true); same = refl; spent = tt }

pub returns-in-Err-clause-polls : goal.returns-in-Err-clause-polls
returns-in-Err-clause-polls g c = record {
  once = FleetOnce.ended c.poll_news.new.self c.in-Err.over (ap (λ s. can_only_end s) (sym c.core.ensures) ∙ sym c.can_only_end.ensures ∙ c.if-can_only_end.false)
      (told_after g.S.Stream.answers g.C.Clock.moments c.args.self.now c.note_moves.new.self _ c.poll_news.new.self c.note_moves.ensures.engine.0 c.note_moves.ensures.engine.1 c.in-Err.ensures.news);
  same = c.in-Err.ensures.same ∙ c.note_moves.ensures.same;
  spent = c.in-Err.ensures.spent;
}

pub returns-in-Ok-clause-polls : goal.returns-in-Ok-clause-polls
returns-in-Ok-clause-polls g c =
    subst (λ (r : Poll Over). FleetPolls g.S.Stream.answers g.C.Clock.moments g.K.Keeping.limit g.K.Keeping.made c.args.self.now r c.poll_engine.new.self) (sym c.poll_engine.ensures.polls.2) (record {
      once = FleetOnce.turned c.poll_news.new.self c.poll_engine.new.self c.in-Ok.again c.poll_engine.ensures.polls.0
          (ap (λ s. can_only_end s) (sym c.core.ensures) ∙ sym c.can_only_end.ensures ∙ c.if-can_only_end.false)
          (told_after g.S.Stream.answers g.C.Clock.moments c.args.self.now c.note_moves.new.self _ c.poll_news.new.self c.note_moves.ensures.engine.0 c.note_moves.ensures.engine.1 c.in-Ok.ensures.news)
          c.poll_engine.ensures.polls.1 c.poll_engine.ensures.keeping.1;
      same = ap g.K.Keeping.limit c.poll_engine.ensures.keeping.0 ∙ c.in-Ok.ensures.same ∙ c.note_moves.ensures.same;
      spent = none_given_up _ c.poll_engine.ensures.polls.0;
    })
