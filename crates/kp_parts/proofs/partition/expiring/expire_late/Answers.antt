use Rattle.std.proofs.Common.{◌≡◌, ◌∙◌, sym, ap, subst, List, ◌++◌, length, arith}
use Rattle.kp_accum.specs.declared.item.Item.{Item}
use Rattle.kp_accum.specs.Queue.{Pending}
use Rattle.kp_rules.specs.declared.outcome.Outcome.TheVariants.{Unsent}
use Rattle.kp_rules.specs.declared.outcome.Reason.TheVariants.{Expired}
use Rattle.kp_rules.specs.Partitions.{items_queued}
use Rattle.kp_rules.specs.Telling.{told_all}
use Rattle.kp_rules.specs.Tick.{behind_late, late_front}
use Rattle.kp_parts.specs.Desk.{tell_desk, Covers}
use Rattle.kp_parts.proofs.TellingLemmas.{covers_first, covers_then, expires, late_told, punctual, told_nothing, told_then}
use Rattle.kp_parts.proofs.partition.expiring.expire_late.Goals as goal

pub overflow_sub-left : goal.overflow_sub-left
overflow_sub-left c =
    let h = expires c.args.config.now c.args.now c.loop-batch.queue c.in-Some.batch (sym c.expire.ensures.front ∙ c.in-Some.is) in
    omega (arith, h.items, c.loop-batch.invariant.left, ap length c.items.ensures.value)

pub tell_all-requires-clause-covered : goal.tell_all-requires-clause-covered
tell_all-requires-clause-covered c =
    let q = c.loop-batch.queue in
    let b = c.in-Some.batch in
    let h = expires c.args.config.now c.args.now q b (sym c.expire.ensures.front ∙ c.in-Some.is) in
    let all = late_told (Unsent Expired) c.args.config.now c.args.now q b h in
    subst (λ (items : List Item). Covers c.loop-batch.desk (told_all (Unsent Expired) items)) (sym c.items-in-Some.ensures.value)
    (covers_first _ _ _ c.loop-batch.desk all c.loop-batch.invariant.covers)

pub loop-batch-smaller : goal.loop-batch-smaller
loop-batch-smaller c =
    let h = expires c.args.config.now c.args.now c.loop-batch.queue c.in-Some.batch (sym c.expire.ensures.front ∙ c.in-Some.is) in
    omega (arith, h.fewer, ap (λ (q : List Pending). length q) c.expire.ensures.rest)

pub loop-batch-preserved : goal.loop-batch-preserved
loop-batch-preserved c =
    let config = c.args.config.now in
    let now = c.args.now in
    let q = c.loop-batch.queue in
    let d = c.loop-batch.desk in
    let b = c.in-Some.batch in
    let rest = c.expire.ensures.rest in
    let h = expires config now q b (sym c.expire.ensures.front ∙ c.in-Some.is) in
    let told : c.tell_all.new.self ≡ tell_desk (told_all (Unsent Expired) b.items) d =
    c.tell_all.ensures ∙ ap (λ (items : List Item). tell_desk (told_all (Unsent Expired) items) d) c.items-in-Some.ensures.value in
    let all : told_all (Unsent Expired) (items_queued (late_front config now q))
    ≡ told_all (Unsent Expired) b.items ++ told_all (Unsent Expired) (items_queued (late_front config now c.expire.new.self)) =
    late_told (Unsent Expired) config now q b h
    ∙ ap (λ (z : List Pending). told_all (Unsent Expired) b.items ++ told_all (Unsent Expired) (items_queued (late_front config now z))) (sym rest) in
    record {
      queue = ap (behind_late config now) rest ∙ h.behind ∙ c.loop-batch.invariant.queue;
      told = told_then _ _ _ d c.tell_all.new.self all told ∙ c.loop-batch.invariant.told;
      covers = covers_then _ _ _ d c.tell_all.new.self all told c.loop-batch.invariant.covers;
      left =
          let fewer = ap (λ (z : List Pending). length (items_queued z)) rest in
          omega (arith, h.items, c.loop-batch.invariant.left, ap length c.items.ensures.value, fewer);
    }

pub returns-clause-queue : goal.returns-clause-queue
returns-clause-queue c =
    let p = punctual c.args.config.now c.args.now c.loop-batch.queue (sym c.expire.ensures.front ∙ c.in_default.is) in
    c.expire.ensures.rest ∙ p.behind ∙ c.loop-batch.invariant.queue

pub returns-clause-told : goal.returns-clause-told
returns-clause-told c =
    let q = c.loop-batch.queue in
    let p = punctual c.args.config.now c.args.now q (sym c.expire.ensures.front ∙ c.in_default.is) in
    told_nothing (told_all (Unsent Expired) (items_queued (late_front c.args.config.now c.args.now q))) c.loop-batch.desk
    (ap (λ (z : List Pending). told_all (Unsent Expired) (items_queued z)) p.late)
    ∙ c.loop-batch.invariant.told

pub returns-clause-left : goal.returns-clause-left
returns-clause-left c =
    let p = punctual c.args.config.now c.args.now c.loop-batch.queue (sym c.expire.ensures.front ∙ c.in_default.is) in
    c.loop-batch.invariant.left ∙ ap (λ (z : List Pending). length (items_queued z)) (sym (c.expire.ensures.rest ∙ p.same))
