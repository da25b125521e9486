use Rattle.std.proofs.Common.{◌≡◌, ◌∙◌, ap, length, map, rules, arith}
use Rattle.std.specs.Prelude.{slice_set}
use Rattle.std.proofs.lemmas.List.Edits.{map_over_more}
use Rattle.kp_accum.specs.Queue.{marked_by_flush}
use Rattle.kp_accum.specs.Budget.{Budget}
use Rattle.kp_accum.proofs.AccumLemmas.{sound-marked, marked-is, map_over_all}
use Rattle.kp_accum.proofs.accum.Accum.mark.Goals as goal

pub loop-p-preserved : goal.loop-p-preserved
loop-p-preserved c =
    let old = c.self.inside.queues.items in
    let qs = c.loop-p.self-inside.queues.items in
    let p = c.loop-p.p in
    let len : c.len-p-end.result ≡ length old = search rules in
    record {
      config = c.loop-p.invariant.config;
      budget = c.loop-p.invariant.budget;
      batches = c.loop-p.invariant.batches;
      queues = ap (slice_set qs p) c.mark.ensures ∙ map_over_more (map marked_by_flush) old qs p c.index_mut.result.now (omega (arith, len, c.loop-p-test.true)) c.loop-p.invariant.queues c.index_mut.ensures.value;
    }

pub invariant_of-self : goal.invariant_of-self
invariant_of-self c =
    let old = c.self.inside.queues.items in
    let len : c.len-p-end.result ≡ length old = search rules in
    let all = c.loop-p.invariant.queues ∙ map_over_all (map marked_by_flush) c.loop-p.p old (omega (arith, len, c.loop-p-test.false)) in
    sound-marked _ _ old c.loop-p.self-inside.queues.items _ _ _ _ _ c.loop-p.invariant.config all (ap (λ (b : Budget). b.limit) c.loop-p.invariant.budget) c.loop-p.invariant.batches c.self.invariant

pub returns : goal.returns
returns c =
    let old = c.self.inside.queues.items in
    let len : c.len-p-end.result ≡ length old = search rules in
    let all = c.loop-p.invariant.queues ∙ map_over_all (map marked_by_flush) c.loop-p.p old (omega (arith, len, c.loop-p-test.false)) in
    rw (← c.self.view_is) (marked-is _ _ old c.loop-p.self-inside.queues.items _ _ c.loop-p.invariant.config all (ap (λ (b : Budget). b.used) c.loop-p.invariant.budget))
