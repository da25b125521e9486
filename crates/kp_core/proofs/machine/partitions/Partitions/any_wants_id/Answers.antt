use Rattle.std.proofs.Common.{◌∙◌, sym, ap}
use Rattle.kp_rules.specs.MaySend.{wants_id}
use Rattle.kp_core.specs.Busy.{busy_in}
use Rattle.kp_core.proofs.BusyLemmas.{all_at, any_busy, any_found, any_missed, listed_there}
use Rattle.kp_core.proofs.IdleLemmas.{idle_wants_nothing}
use Rattle.kp_core.proofs.machine.partitions.Partitions.any_wants_id.Goals as goal

pub at-requires : goal.at-requires
at-requires c = listed_there c.args.self.now c.deref-place-items.result.now c.loop-place.place-index
    (c.deref-place-items.ensures.value ∙ c.self.invariant.listed.busy ∙ ap busy_in c.self.view_is) c.loop-place-test.true

pub returns-then-wants_id : goal.returns-then-wants_id
returns-then-wants_id c = any_found (wants_id c.args.config.now) _ c.args.self.now c.deref-place-items.result.now c.loop-place.place-index
    (any_busy (wants_id c.args.config.now) 0 c.args.self.now c.args.self.now (idle_wants_nothing c.args.config.now) (all_at c.args.self.now))
    (c.deref-place-items.ensures.value ∙ c.self.invariant.listed.busy ∙ ap busy_in c.self.view_is) c.loop-place-test.true
    (ap (wants_id c.args.config.now) (sym c.at.ensures) ∙ sym c.wants_id.ensures ∙ c.if-wants_id.true) c.loop-place.invariant

pub returns : goal.returns
returns c = any_missed (wants_id c.args.config.now) _ c.args.self.now c.deref-place-items.result.now c.loop-place.place-index
    (any_busy (wants_id c.args.config.now) 0 c.args.self.now c.args.self.now (idle_wants_nothing c.args.config.now) (all_at c.args.self.now))
    (c.deref-place-items.ensures.value ∙ c.self.invariant.listed.busy ∙ ap busy_in c.self.view_is) c.loop-place-test.false c.loop-place.invariant
