use Rattle.std.proofs.Common.{◌≡◌, ◌∙◌, sym, ap, ℕ, suc, ◌-◌, ◌<◌, length, get_or, ◌∷◌, ◌++◌, [], true, refl, rules, arith}
use Rattle.std.specs.Prelude.{slice_set}
use Rattle.std.proofs.lemmas.Result.{on_ok_weaker}
use Rattle.kp_accum.specs.Queue.{Pending, joins, joined_by, begun_by, with_item}
use Rattle.kp_accum.proofs.QueueLemmas.{joined_last, begun_behind}
use Rattle.kp_accum.proofs.MarkLemmas.{marks-set, marks-push}
use Rattle.kp_accum.proofs.queue.Queue.append.Goals as goal

pub invariant_of-self : goal.invariant_of-self
invariant_of-self c =
    let qs = c.self.inside.batches.items in
    let last = c.index_mut.result.now in
    let at : c.len-last.result ≡ length qs = search rules in
    let some : 0 < length qs = c.in-Some.ensures.some refl in
    let same = c.join.ensures.mark ∙ ap (λ (b : Pending). b.marked) c.index_mut.ensures.value in
    marks-set c.self.inside.marked qs (c.len-last.result - 1) c.join.new.self last (omega (arith, at, some)) same c.self.invariant

pub returns-in-Some-clause-ok : goal.returns-in-Some-clause-ok
returns-in-Some-clause-ok c =
    let qs = c.self.inside.batches.items in
    let config = c.args.config.now in
    let item = c.args.item in
    let last = c.index_mut.result.now in
    let len : c.len-last.result ≡ length qs = search rules in
    let some : 0 < length qs = c.in-Some.ensures.some refl in
    let same : qs ≡ c.args.self.now = search rules in
    let here : last ≡ get_or qs (c.len-last.result - 1) last = c.index_mut.ensures.value in
    let place : c.len-last.result - 1 ≡ length qs - 1 = omega (arith, len) in
    let joined : joins config item (get_or qs (c.len-last.result - 1) last) ≡ true = ap (λ (k : ℕ). joins config item (get_or qs k last)) place ∙ sym (c.in-Some.ensures.joins last some) in
    let at : suc (c.len-last.result - 1) ≡ length qs = omega (arith, len, some) in
    let is = joined_last config item qs (c.len-last.result - 1) last at joined in
    on_ok_weaker c.join.result
    (λ e. ap (slice_set qs (c.len-last.result - 1)) (e ∙ ap (joined_by item) here) ∙ sym is ∙ ap (with_item config item) same)
    c.join.ensures.ok

pub invariant_of-self-in-Ok : goal.invariant_of-self-in-Ok
invariant_of-self-in-Ok c =
    let qs = c.self.inside.batches.items in
    let is : c.push_back_reserved.new.self.items ≡ qs ++ c.begun_by-batch.result ∷ [] = search rules in
    rw is (marks-push c.self.inside.marked qs c.begun_by-batch.result (ap (λ (b : Pending). b.marked) c.begun_by-batch.ensures) c.self.invariant)

pub returns-in-Ok-clause-ok : goal.returns-in-Ok-clause-ok
returns-in-Ok-clause-ok c =
    let qs = c.self.inside.batches.items in
    let config = c.args.config.now in
    let item = c.args.item in
    let same : qs ≡ c.args.self.now = search rules in
    let is : c.push_back_reserved.new.self.items ≡ qs ++ c.begun_by-batch.result ∷ [] = search rules in
    is ∙ ap (λ (b : Pending). qs ++ b ∷ []) c.begun_by-batch.ensures
    ∙ sym (begun_behind config item qs (λ d some. c.in_default.ensures.joins d some))
    ∙ ap (with_item config item) same
