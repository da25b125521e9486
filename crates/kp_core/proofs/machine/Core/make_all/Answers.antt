use Rattle.std.proofs.Common.{◌≡◌, List, [], ◌∷◌, length, vec_len, sym, ap, subst, rules, arith}
use Rattle.std.proofs.lemmas.List.{nil_from_length}
use Rattle.kp_core.specs.declared.calls.Asked.{Asked}
use Rattle.kp_core.specs.declared.calls.Answered.{Answered}
use Rattle.kp_core.proofs.CallingLemmas.{IsPartMade, none_made, next_made, all_made}
use Rattle.kp_core.proofs.machine.Core.make_all.Goals as goal

pub loop-call-init : goal.loop-call-init
loop-call-init c =
    let made = c.in_ok-answers.ensures in
    let rest = c.into_iter-call-iterator.ensures.into_iter_gives.0 in
    let many : vec_len c.args.asked ≡ length c.args.asked.items = search rules in (
      record { front = []; split = rest; made = rw (made.items) (none_made c.args.self.now) },
      omega (arith, made.len, made.capacity, c.len.ensures, many, ap length rest),
    )

pub push_reserved-requires : goal.push_reserved-requires
push_reserved-requires c = omega (arith, c.loop-call.invariant.1, ap length c.in-Some.ensures.steps.0)

pub loop-call-preserved : goal.loop-call-preserved
loop-call-preserved c =
    let s = c.args.self.now in
    let all = c.args.asked.items in
    let rest = c.next.new.self.rest.items in
    let still : IsPartMade s all (c.in-Some.call ∷ rest) c.loop-call.answers.items c.loop-call.self =
    subst (λ (xs : List Asked). IsPartMade s all xs c.loop-call.answers.items c.loop-call.self) c.in-Some.ensures.steps.0 c.loop-call.invariant.0 in
    let part = next_made s c.loop-call.self c.make-answer.new.self all rest c.loop-call.answers.items c.in-Some.call c.make-answer.result still c.make-answer.ensures in (
      subst (λ (xs : List Answered). IsPartMade s all rest xs c.make-answer.new.self) (sym c.push_reserved.ensures.items) part,
      omega (arith, c.loop-call.invariant.1, ap length c.in-Some.ensures.steps.0, c.push_reserved.ensures.len, c.push_reserved.ensures.capacity),
    )

pub returns-clause-ok : goal.returns-clause-ok
returns-clause-ok c =
    let zero : length c.loop-call.call-iterator.rest.items ≡ 0 = search rules in
    all_made c.args.self.now c.loop-call.self c.args.asked.items c.loop-call.answers.items
    (subst (λ (xs : List Asked). IsPartMade c.args.self.now c.args.asked.items xs c.loop-call.answers.items c.loop-call.self) (nil_from_length c.loop-call.call-iterator.rest.items zero) c.loop-call.invariant.0)
