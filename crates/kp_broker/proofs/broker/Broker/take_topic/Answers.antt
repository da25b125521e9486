use Rattle.std.proofs.Common.{◌≡◌, ◌+◌, ◌∷◌, ◌++◌, [], length, ◌≤◌, refl, rules}
use Rattle.kp_broker.proofs.TakingLemmas.{on_err, took_part, took_some, topic_fits}
use Rattle.kp_broker.proofs.broker.Broker.take_topic.Goals as goal

pub returns-in_err-take_part-clause-refused : goal.returns-in_err-take_part-clause-refused
returns-in_err-take_part-clause-refused c =
    on_err c.from_residual-in_err-take_part.result
    (took_some _ _ _ _ _ c.loop-part.part-index c.loop-part.partitions.items c.loop-part.self _ c.in_err-take_part.ensures.refused c.loop-part.invariant)

pub loop-part-preserved : goal.loop-part-preserved
loop-part-preserved c =
    took_part _ _ _ _ _ _ _ _ c.part-item.result c.in_ok-take_part.field-0 _ _ _ c.as_slice-part-items.ensures c.in_ok-push.ensures.items c.loop-part-test.true c.part-item.is
    c.in_ok-take_part.ensures.answer c.in_ok-take_part.ensures.fits c.in_ok-take_part.ensures.after c.loop-part.invariant

pub returns-in_err-push-clause-refused : goal.returns-in_err-push-clause-refused
returns-in_err-push-clause-refused c =
    on_err c.from_residual-in_err-push.result
    (took_some _ _ _ _ _ (c.loop-part.part-index + 1) (c.loop-part.partitions.items ++ c.in_ok-take_part.field-0 ∷ []) c.take_part.new.self _ refl
    (took_part _ _ _ _ _ _ _ _ c.part-item.result c.in_ok-take_part.field-0 _ _ _ c.as_slice-part-items.ensures refl c.loop-part-test.true c.part-item.is
    c.in_ok-take_part.ensures.answer c.in_ok-take_part.ensures.fits c.in_ok-take_part.ensures.after c.loop-part.invariant))

pub returns-clause-fits : goal.returns-clause-fits
returns-clause-fits c =
    let same : c.in_ok-name.name ≡ c.args.topic.now.topic = search rules in
    let end : length c.args.topic.now.partitions ≤ c.loop-part.part-index = search rules in
    rw c.new.ensures (topic_fits _ _ _ _ _ c.loop-part.part-index c.loop-part.partitions.items c.loop-part.self c.in_ok-name.name c.requires same end c.loop-part.invariant)
