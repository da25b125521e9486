use Rattle.std.proofs.Common.{◌≡◌, ◌∙◌, true, false, not, sym, ap, arith}
use Rattle.kp_accum.specs.Queue.{charge_of}
use Rattle.kp_batch.proofs.SizeLemmas.{measured_small}
use Rattle.kp_core.specs.Keeping.{seen_of}
use Rattle.kp_rules.specs.Appending.{may_append, would_exhaust}
use Rattle.kp_rules.specs.Partitions.{partition_at}
use Rattle.kp_rules.specs.Records.{Core, Partition}
use Rattle.kp_rules.proofs.OrderedCallLemmas.{has_bounds, is_there}
use Rattle.kp_core.proofs.AppendLemmas.{answers_full, at_end, at_fence, charge_fits, exhausts-is}
use Rattle.kp_core.proofs.KeepingLemmas.{quiet_kept}
use Rattle.kp_core.proofs.LeavingLemmas.{exhausted_left}
use Rattle.kp_core.proofs.machine.Core.append_item.Goals as goal

pub turn_away-requires-clause-turned : goal.turn_away-requires-clause-turned
turn_away-requires-clause-turned c = at_end c.args.item c.args.self.now c.requires.may (ap (λ (s : Core). s.ended) (sym c.self.view_is) ∙ c.if-self.true)

pub at-requires : goal.at-requires
at-requires c =
    let may : may_append c.args.item (seen_of c.self.inside) ≡ true = rw (c.self.view_is) c.requires.may in
    is_there c.args.item (seen_of c.self.inside) may

pub turn_away-requires-then-is_fenced-clause-turned : goal.turn_away-requires-then-is_fenced-clause-turned
turn_away-requires-then-is_fenced-clause-turned c =
    let s = seen_of c.self.inside in
    let may : may_append c.args.item s ≡ true = rw (c.self.view_is) c.requires.may in
    let old : c.at.result.now ≡ partition_at c.args.item.partition s.partitions =
    c.at.ensures in
    at_fence c.args.item c.args.self.now c.requires.may (ap (λ (x : Core). x.ended) (sym c.self.view_is) ∙ c.if-self.false)
    (ap (λ (x : Core). (partition_at c.args.item.partition x.partitions).fenced) (sym c.self.view_is) ∙ ap (λ (t : Partition). t.fenced) (sym old)
    ∙ sym c.is_fenced.ensures ∙ c.if-is_fenced.true)

pub invariant_of-self : goal.invariant_of-self
invariant_of-self c = quiet_kept c.self.invariant (exhausted_left (seen_of c.self.inside) c.self.invariant.order)

pub returns-then-not-has_room-clause-step : goal.returns-then-not-has_room-clause-step
returns-then-not-has_room-clause-step c =
    let s = seen_of c.self.inside in
    let may : may_append c.args.item s ≡ true = rw (c.self.view_is) c.requires.may in
    let old : c.at.result.now ≡ partition_at c.args.item.partition s.partitions =
    c.at.ensures in
    let going : c.args.self.now.ended ≡ false = ap (λ (x : Core). x.ended) (sym c.self.view_is) ∙ c.if-self.false in
    let free : (partition_at c.args.item.partition c.args.self.now.partitions).fenced ≡ false =
    ap (λ (x : Core). (partition_at c.args.item.partition x.partitions).fenced) (sym c.self.view_is) ∙ ap (λ (t : Partition). t.fenced) (sym old)
    ∙ sym c.is_fenced.ensures ∙ c.if-is_fenced.false in
    let bounds = has_bounds c.self.inside.config c.self.invariant.order.config in
    let charge = c.requires.is_its ∙ measured_small (charge_of c.args.item) (omega (arith, charge_fits c.args.item s may, bounds.request)) in
    let full : would_exhaust c.args.item c.args.self.now ≡ true =
    ap (would_exhaust c.args.item) (sym c.self.view_is) ∙ exhausts-is c.args.item c.args.charge c.self.invariant charge ∙ ap not (sym c.has_room.ensures ∙ c.if-not-has_room.true) in
    let step = answers_full c.args.item c.args.self.now c.requires.may going free full in
    (step.0, ap (λ (x : Core). let y : Core = record x { exhausted = true } in y) c.self.view_is ∙ step.1)

pub enqueue-requires-clause-is_its : goal.enqueue-requires-clause-is_its
enqueue-requires-clause-is_its c =
    let s = seen_of c.self.inside in
    let may : may_append c.args.item s ≡ true = rw (c.self.view_is) c.requires.may in
    let bounds = has_bounds c.self.inside.config c.self.invariant.order.config in
    c.requires.is_its ∙ measured_small (charge_of c.args.item) (omega (arith, charge_fits c.args.item s may, bounds.request))

pub enqueue-requires-clause-room : goal.enqueue-requires-clause-room
enqueue-requires-clause-room c =
    let s = seen_of c.self.inside in
    let may : may_append c.args.item s ≡ true = rw (c.self.view_is) c.requires.may in
    let bounds = has_bounds c.self.inside.config c.self.invariant.order.config in
    let charge = c.requires.is_its ∙ measured_small (charge_of c.args.item) (omega (arith, charge_fits c.args.item s may, bounds.request)) in
    ap (would_exhaust c.args.item) (sym c.self.view_is) ∙ exhausts-is c.args.item c.args.charge c.self.invariant charge ∙ ap not (sym c.has_room.ensures ∙ c.if-not-has_room.false)
