use Rattle.std.proofs.Common.{◌≡◌, ◌∙◌, ℕ, ◌+◌, true, false, set, refl, sym, ap, subst, rules, arith}
use Rattle.kp_accum.specs.Queue.{charge_of}
use Rattle.kp_core.specs.Keeping.{IsKept, seen_of}
use Rattle.kp_rules.specs.Appending.{enqueue, may_append, with_queued, would_exhaust}
use Rattle.kp_rules.specs.Partitions.{partition_at}
use Rattle.kp_rules.specs.Records.{Core}
use Rattle.kp_rules.proofs.OrderedCallLemmas.{has_bounds, is_there}
use Rattle.kp_parts.specs.Desk.{Desk, with_place, without_place}
use Rattle.kp_parts.proofs.DeskKeeping.{without-with_place}
use Rattle.kp_core.proofs.AppendLemmas.{answers_no_room, answers_queued, charge_fits, few_untold, line_there, place_kept, queued-is, restored, room_left}
use Rattle.kp_core.proofs.KeepingLemmas.{gained_kept}
use Rattle.kp_core.proofs.machine.Core.enqueue.Goals as goal

pub reserve-requires : goal.reserve-requires
reserve-requires c = line_there c.args.item (seen_of c.self.inside) c.self.inside.desk refl (rw (c.self.view_is) c.requires.may)

pub returns-then-is_err-clause-step : goal.returns-then-is_err-clause-step
returns-then-is_err-clause-step c =
    let same : c.reserve.new.self ≡ c.self.inside.desk = search rules in
    let step = answers_no_room c.args.item c.args.self.now c.requires.may c.requires.going c.requires.free c.requires.room in
    (step.0, restored (seen_of c.self.inside) c.self.inside.partitions c.self.inside.desk c.reserve.new.self refl refl same ∙ c.self.view_is)

pub enqueue-requires-clause-there : goal.enqueue-requires-clause-there
enqueue-requires-clause-there c =
    let may : may_append c.args.item (seen_of c.self.inside) ≡ true = rw (c.self.view_is) c.requires.may in
    is_there c.args.item (seen_of c.self.inside) may

pub enqueue-requires-clause-fits : goal.enqueue-requires-clause-fits
enqueue-requires-clause-fits c =
    let may : may_append c.args.item (seen_of c.self.inside) ≡ true = rw (c.self.view_is) c.requires.may in
    let fits = charge_fits c.args.item (seen_of c.self.inside) may in
    let bounds = has_bounds c.self.inside.config c.self.invariant.order.config in
    omega (arith, fits, bounds.request, c.requires.is_its)

pub give_back_place-requires : goal.give_back_place-requires
give_back_place-requires c =
    let kept : c.reserve.new.self ≡ with_place c.args.item.sender c.self.inside.desk = search rules in
    let there = line_there c.args.item (seen_of c.self.inside) c.self.inside.desk refl (rw (c.self.view_is) c.requires.may) in
    rw kept (place_kept c.args.item.sender c.self.inside.desk there)

pub invariant_of-self-in-Err : goal.invariant_of-self-in-Err
invariant_of-self-in-Err c =
    let s = seen_of c.self.inside in
    let d = c.self.inside.desk in
    let may : may_append c.args.item s ≡ true = rw (c.self.view_is) c.requires.may in
    let kept : c.reserve.new.self ≡ with_place c.args.item.sender d = search rules in
    let back : c.give_back_place.new.self ≡ d =
    c.give_back_place.ensures ∙ ap (without_place c.args.item.sender) kept ∙ without-with_place c.args.item.sender d (line_there c.args.item s d refl may) in
    let ts : c.enqueue.new.self ≡ s.partitions = search rules in
    let is = restored s c.enqueue.new.self d c.give_back_place.new.self refl ts back in
    subst (λ (x : Core). IsKept x c.give_back_place.new.self) (sym is)
    (subst (λ (x : Desk). IsKept s x) (sym back) c.self.invariant)

pub returns-in-Err-clause-step : goal.returns-in-Err-clause-step
returns-in-Err-clause-step c =
    let s = seen_of c.self.inside in
    let d = c.self.inside.desk in
    let may : may_append c.args.item s ≡ true = rw (c.self.view_is) c.requires.may in
    let kept : c.reserve.new.self ≡ with_place c.args.item.sender d = search rules in
    let back : c.give_back_place.new.self ≡ d =
    c.give_back_place.ensures ∙ ap (without_place c.args.item.sender) kept ∙ without-with_place c.args.item.sender d (line_there c.args.item s d refl may) in
    let ts : c.enqueue.new.self ≡ s.partitions = search rules in
    let step = answers_no_room c.args.item c.args.self.now c.requires.may c.requires.going c.requires.free c.requires.room in
    (step.0, restored s c.enqueue.new.self d c.give_back_place.new.self refl ts back ∙ c.self.view_is)

pub take-requires-clause-room : goal.take-requires-clause-room
take-requires-clause-room c =
    let s = seen_of c.self.inside in
    let may : may_append c.args.item s ≡ true = rw (c.self.view_is) c.requires.may in
    let kept : c.reserve.new.self ≡ with_place c.args.item.sender c.self.inside.desk = search rules in
    let left = room_left c.args.item s (rw (c.self.view_is) c.requires.room) in
    omega (arith, ap (λ (x : Desk). x.used) kept, ap (λ (x : Desk). x.limit) kept, c.requires.is_its, left, c.self.invariant.used, c.self.invariant.limit)

pub take-requires-clause-count : goal.take-requires-clause-count
take-requires-clause-count c =
    let kept : c.reserve.new.self ≡ with_place c.args.item.sender c.self.inside.desk = search rules in
    omega (arith, ap (λ (x : Desk). x.untold) kept, few_untold c.self.invariant)

pub invariant_of-self-2 : goal.invariant_of-self-2
invariant_of-self-2 c =
    let s = seen_of c.self.inside in
    let d = c.self.inside.desk in
    let i = c.args.item in
    let may : may_append i s ≡ true = rw (c.self.view_is) c.requires.may in
    let kept : c.reserve.new.self ≡ with_place i.sender d = search rules in
    let ts : c.enqueue.new.self ≡ set s.partitions i.partition (enqueue s.config i (partition_at i.partition s.partitions)) = search rules in
    let told : c.take.new.self ≡ record (with_place i.sender d) { untold = d.untold + 1; used = d.used + charge_of i } =
    c.take.ensures ∙ ap (λ (x : Desk). let y : Desk = record x { untold = x.untold + 1; used = x.used + c.args.charge } in y) kept
    ∙ ap (λ (n : ℕ). let y : Desk = record (with_place i.sender d) { untold = d.untold + 1; used = d.used + n } in y) c.requires.is_its in
    let is = queued-is i s c.enqueue.new.self d c.take.new.self refl ts told in
    let going : s.ended ≡ false = ap (λ (x : Core). x.ended) c.self.view_is ∙ c.requires.going in
    let free : (partition_at i.partition s.partitions).fenced ≡ false = ap (λ (x : Core). (partition_at i.partition x.partitions).fenced) c.self.view_is ∙ c.requires.free in
    let room : would_exhaust i s ≡ false = ap (would_exhaust i) c.self.view_is ∙ c.requires.room in
    subst (λ (x : Core). IsKept x c.take.new.self) (sym is)
    (subst (λ (x : Desk). IsKept (with_queued i s) x) (sym told)
    (gained_kept i (record { moment = c.see_record.ensures.moment; keys = c.see_record.ensures.keys }) may going free room (line_there i s d refl may) c.self.invariant))

pub returns-clause-step : goal.returns-clause-step
returns-clause-step c =
    let s = seen_of c.self.inside in
    let d = c.self.inside.desk in
    let i = c.args.item in
    let may : may_append i s ≡ true = rw (c.self.view_is) c.requires.may in
    let kept : c.reserve.new.self ≡ with_place i.sender d = search rules in
    let ts : c.enqueue.new.self ≡ set s.partitions i.partition (enqueue s.config i (partition_at i.partition s.partitions)) = search rules in
    let told : c.take.new.self ≡ record (with_place i.sender d) { untold = d.untold + 1; used = d.used + charge_of i } =
    c.take.ensures ∙ ap (λ (x : Desk). let y : Desk = record x { untold = x.untold + 1; used = x.used + c.args.charge } in y) kept
    ∙ ap (λ (n : ℕ). let y : Desk = record (with_place i.sender d) { untold = d.untold + 1; used = d.used + n } in y) c.requires.is_its in
    let is = queued-is i s c.enqueue.new.self d c.take.new.self refl ts told in
    answers_queued i c.args.self.now _ c.requires.may c.requires.going c.requires.free c.requires.room (is ∙ ap (with_queued i) c.self.view_is)
