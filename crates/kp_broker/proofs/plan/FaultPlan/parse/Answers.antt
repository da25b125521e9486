use Rattle.std.proofs.Common.{◌≡◌, ◌+◌, ◌<◌, length, get_or, ap, ◌∙◌, lit<}
use Rattle.std.specs.Str.Iter.{split_text, split_has_more, split_pattern}
use Rattle.std.proofs.lemmas.List.{length_push}
use Rattle.std.proofs.lemmas.Iterator.Splits.{YieldsList-from_str_split}
use Rattle.std.proofs.lemmas.Iterator.Consumers.{YieldsList-turn, YieldsList-end}
use Rattle.kp_broker.proofs.ReadLemmas.{HasRead, one-more, twice, refused, has-entry, all-read, none-read, bad-part}
use Rattle.kp_broker.specs.Plan.{parts}
use Rattle.kp_broker.proofs.plan.FaultPlan.parse.Goals as goal
use Rattle.kp_broker.proofs.plan.FaultPlan.parse.Goals.{In-Some}

pub loop-part-init : goal.loop-part-init
loop-part-init c = none-read c.args.text.now c.new-actions.result.entries c.new-actions.ensures.empty

-- the part at hand is the next
turn : (c : In-Some) → (length c.loop-part.yielded < length (parts c.args.text.now)) × (c.in-Some.part.now ≡ get_or (parts c.args.text.now) (length c.loop-part.yielded) c.in-Some.part.now)
turn c =
    let same = c.into_iter-part-iterator.ensures.into_iter_gives in
    YieldsList-turn
    (YieldsList-from_str_split 44 c.args.text.now (lit< tt) (ap split_text same ∙ c.split-part-items.ensures.text) (ap split_has_more same ∙ c.split-part-items.ensures.has_more) (ap split_pattern same ∙ c.split-part-items.ensures.pattern))
    c.loop-part.yielded _ c.loop-part.yielded_by _ _ c.in-Some.part c.in-Some.is c.next.ensures.steps

pub returns-in_default : goal.returns-in_default
returns-in_default c =
    let at = turn (goal.at.returns-in_default c).In-Some in
    let none = rw c.in_default.is at c.entry_of.ensures in
    bad-part c.args.text.now (length c.loop-part.yielded) c.in-Some.part.now at.0 at.1 none

pub loop-part-preserved : goal.loop-part-preserved
loop-part-preserved c =
    let at = turn (goal.at.loop-part-preserved c).In-Some in
    let one : HasRead c.args.text.now (length c.loop-part.yielded + 1) c.add.new.actions.entries =
    one-more c.args.text.now (length c.loop-part.yielded) c.loop-part.actions.entries c.loop-part.invariant c.in-Some.part.now at.0 at.1
    (c.in-Some-entry_of.number, c.in-Some-entry_of.action) c.in-Some-entry_of.ensures.0 c.in-Some-entry_of.ensures.1
    c.in_ok-add.ensures.0 c.add.new.actions.entries c.in_ok-add.ensures.1 in
    rw (length_push c.loop-part.yielded c.in-Some.part) one

pub returns-in_err-add : goal.returns-in_err-add
returns-in_err-add c =
    let at = turn (goal.at.returns-in_err-add c).In-Some in
    refused c.args.text.now c.loop-part.actions.entries c.add.new.actions.entries c.in-Some-entry_of.number c.in-Some-entry_of.action c.in_err-add.field-0.0 c.from_residual.result
    c.from_residual.ensures.1 c.in_err-add.ensures
    (twice c.args.text.now (length c.loop-part.yielded) c.loop-part.actions.entries c.loop-part.invariant c.in-Some.part.now at.0 at.1
    (c.in-Some-entry_of.number, c.in-Some-entry_of.action) c.in-Some-entry_of.ensures.0 c.in-Some-entry_of.ensures.1)
    (has-entry c.args.text.now (length c.loop-part.yielded) c.in-Some.part.now at.0 at.1
    (c.in-Some-entry_of.number, c.in-Some-entry_of.action) c.in-Some-entry_of.ensures.0 c.in-Some-entry_of.ensures.1)

pub returns : goal.returns
returns c =
    let same = c.into_iter-part-iterator.ensures.into_iter_gives in
    let end = YieldsList-end
    (YieldsList-from_str_split 44 c.args.text.now (lit< tt) (ap split_text same ∙ c.split-part-items.ensures.text) (ap split_has_more same ∙ c.split-part-items.ensures.has_more) (ap split_pattern same ∙ c.split-part-items.ensures.pattern))
    c.loop-part.yielded _ c.loop-part.yielded_by _ _ c.in-None.is c.next.ensures.steps in
    all-read c.args.text.now (length c.loop-part.yielded) c.loop-part.actions.entries c.loop-part.invariant end.1
