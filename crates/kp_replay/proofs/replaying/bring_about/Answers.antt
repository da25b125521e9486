use Rattle.std.proofs.Common.{◌≡◌, Ok, rules, sym, subst, ◌∙◌, List}
use Rattle.kp_accum.specs.Config.{checked}
use Rattle.kp_schedule.specs.declared.schedule.Scheduled.{Scheduled}
use Rattle.kp_replay.specs.Replaying.{Replays}
use Rattle.kp_replay.proofs.ReplayingLemmas.{HasReplayed, all-replayed, given-back, none-replayed, one-replayed, replay-ends}
use Rattle.kp_replay.proofs.replaying.bring_about.Goals as goal

pub loop-scheduled-init : goal.loop-scheduled-init
loop-scheduled-init c =
    let fine : checked c.args.schedule.config ≡ Ok tt = search rules in
    let all : c.into_iter-scheduled-iterator.result.rest.items ≡ c.args.schedule.events = search rules in
    subst (λ (rest : List Scheduled). HasReplayed c.args.schedule rest c.in_ok-world.world) (sym all) (none-replayed c.args.schedule c.in_ok-world.world fine c.in_ok-world.ensures)

pub loop-scheduled-preserved : goal.loop-scheduled-preserved
loop-scheduled-preserved c =
    one-replayed c.args.schedule c.in-Some.scheduled c.next.new.self.rest.items c.loop-scheduled.world c.take_place.new.world
    (subst (λ (rest : List Scheduled). HasReplayed c.args.schedule rest c.loop-scheduled.world) c.in-Some.ensures.steps.0 c.loop-scheduled.invariant) c.in_ok-take_place.ensures

pub returns-in_err-take_place : goal.returns-in_err-take_place
returns-in_err-take_place c =
    given-back (Replays c.args.schedule) c.from_residual-in_err-take_place.result c.in_err-take_place.field-0.0 c.from_residual-in_err-take_place.ensures.1
    (replay-ends c.args.schedule c.in-Some.scheduled c.next.new.self.rest.items c.loop-scheduled.world c.take_place.new.world
    (subst (λ (rest : List Scheduled). HasReplayed c.args.schedule rest c.loop-scheduled.world) c.in-Some.ensures.steps.0 c.loop-scheduled.invariant) c.in_err-take_place.field-0.0 c.in_err-take_place.ensures)

pub returns : goal.returns
returns c =
    let all = all-replayed c.args.schedule c.loop-scheduled.scheduled-iterator.rest.items c.loop-scheduled.world c.loop-scheduled.invariant
    (sym c.loop-scheduled.scheduled-iterator.rest.ok.0 ∙ c.in-None.ensures.steps.0) in
    (c.loop-scheduled.invariant.fine, all.0, all.1)
