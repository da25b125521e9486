use Rattle.std.proofs.Common.{◌∙◌, sym, ap}
use Rattle.kp_rules.specs.Flush.{has_marks}
use Rattle.kp_core.specs.Busy.{busy_in}
use Rattle.kp_core.proofs.BusyLemmas.{all_at, any_busy, any_found, any_missed, listed_there}
use Rattle.kp_core.proofs.IdleLemmas.{idle_unmarked}
use Rattle.kp_core.proofs.machine.partitions.Partitions.any_marked.Goals as goal

pub at-requires : goal.at-requires
at-requires c = listed_there c.args.self.now c.deref-place-items.result.now c.loop-place.place-index
    (c.deref-place-items.ensures.value ∙ c.self.invariant.listed.busy ∙ ap busy_in c.self.view_is) c.loop-place-test.true

pub returns-then-has_marks : goal.returns-then-has_marks
returns-then-has_marks c = any_found (has_marks) _ c.args.self.now c.deref-place-items.result.now c.loop-place.place-index
    (any_busy has_marks 0 c.args.self.now c.args.self.now idle_unmarked (all_at c.args.self.now))
    (c.deref-place-items.ensures.value ∙ c.self.invariant.listed.busy ∙ ap busy_in c.self.view_is) c.loop-place-test.true
    (ap (has_marks) (sym c.at.ensures) ∙ sym c.has_marks.ensures ∙ c.if-has_marks.true) c.loop-place.invariant

pub returns : goal.returns
returns c = any_missed (has_marks) _ c.args.self.now c.deref-place-items.result.now c.loop-place.place-index
    (any_busy has_marks 0 c.args.self.now c.args.self.now idle_unmarked (all_at c.args.self.now))
    (c.deref-place-items.ensures.value ∙ c.self.invariant.listed.busy ∙ ap busy_in c.self.view_is) c.loop-place-test.false c.loop-place.invariant
