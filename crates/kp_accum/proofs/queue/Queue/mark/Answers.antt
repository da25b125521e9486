use Rattle.std.proofs.Common.{◌≡◌, ◌∙◌, sym, ap, suc, ◌+◌, map, get_or, true, refl, rules, arith}
use Rattle.std.proofs.Math.Seq.{map-set_same}
use Rattle.std.proofs.lemmas.List.{length-set}
use Rattle.kp_accum.specs.Queue.{Pending, marked_by_flush}
use Rattle.kp_accum.proofs.MarkLemmas.{marked_below-first, marked_below-set, marked_below-all, marks-all}
use Rattle.kp_accum.proofs.queue.Queue.mark.Goals as goal

pub loop-k-init : goal.loop-k-init
loop-k-init c = record {
  as_many = search rules;
  same = refl;
  marked = marked_below-first c.self.inside.marked c.self.inside.batches.items c.self.invariant;
}

pub loop-k-preserved : goal.loop-k-preserved
loop-k-preserved c =
    let qs = c.loop-k.self-inside.batches.items in
    let k = c.loop-k.k in
    let before = c.index_mut.result.now in
    let after = c.mark.new.self in
    let marked : after.marked ≡ true = ap (λ (b : Pending). b.marked) c.mark.ensures in
    let next : suc k ≡ k + 1 = omega arith in
    let again : marked_by_flush after ≡ marked_by_flush (get_or qs k before) = ap marked_by_flush c.mark.ensures ∙ ap marked_by_flush c.index_mut.ensures.value in
    record {
      as_many = length-set qs k after ∙ c.loop-k.invariant.as_many;
      same = map-set_same marked_by_flush qs k after before again ∙ c.loop-k.invariant.same;
      marked = rw next at (marked_below-set k qs after marked c.loop-k.invariant.marked);
    }

pub invariant_of-self : goal.invariant_of-self
invariant_of-self c =
    let qs = c.loop-k.self-inside.batches.items in
    let all : map marked_by_flush qs ≡ qs = marked_below-all c.loop-k.k qs (omega (arith, c.loop-k.invariant.as_many, c.loop-k-test.false)) c.loop-k.invariant.marked in
    rw (all, c.loop-k.invariant.as_many) at (marks-all qs)

pub returns : goal.returns
returns c =
    let qs = c.loop-k.self-inside.batches.items in
    let all : map marked_by_flush qs ≡ qs = marked_below-all c.loop-k.k qs (omega (arith, c.loop-k.invariant.as_many, c.loop-k-test.false)) c.loop-k.invariant.marked in
    let same : c.self.inside.batches.items ≡ c.args.self.now = search rules in
    sym all ∙ c.loop-k.invariant.same ∙ ap (map marked_by_flush) same
