use Rattle.std.proofs.Common.{◌≤◌, ◌+◌, ◌++◌, [], ◌∷◌, length, refl, rules}
use Rattle.kp_broker.proofs.TakingLemmas.{on_err, topic_data_fits, took_topic, took_some_topics, took_within, produce_fits}
use Rattle.kp_broker.proofs.broker.Broker.take_all.Goals as goal

pub take_topic-requires : goal.take_topic-requires
take_topic-requires c =
    topic_data_fits _ c.loop-topic.topic-index c.topic-item.result _ c.requires c.as_slice-topic-items.ensures c.loop-topic-test.true c.topic-item.is

pub returns-in_err-take_topic-clause-refused : goal.returns-in_err-take_topic-clause-refused
returns-in_err-take_topic-clause-refused c =
    on_err c.from_residual-in_err-take_topic.result
    (took_within _ _ _ _ c.loop-topic.topic-index c.loop-topic.topics.items c.loop-topic.self c.topic-item.result _ _ c.as_slice-topic-items.ensures
    c.loop-topic-test.true c.topic-item.is c.in_err-take_topic.ensures.refused c.loop-topic.invariant)

pub loop-topic-preserved : goal.loop-topic-preserved
loop-topic-preserved c =
    took_topic _ _ _ _ _ _ _ c.topic-item.result c.in_ok-take_topic.field-0 _ _ _ c.as_slice-topic-items.ensures c.in_ok-push.ensures.items
    c.loop-topic-test.true c.topic-item.is c.in_ok-take_topic.ensures.answer c.in_ok-take_topic.ensures.fits c.in_ok-take_topic.ensures.after
    c.loop-topic.invariant

pub returns-in_err-push-clause-refused : goal.returns-in_err-push-clause-refused
returns-in_err-push-clause-refused c =
    on_err c.from_residual-in_err-push.result
    (took_some_topics _ _ _ _ (c.loop-topic.topic-index + 1) (c.loop-topic.topics.items ++ c.in_ok-take_topic.field-0 ∷ []) c.take_topic.new.self _ refl
    (took_topic _ _ _ _ _ _ _ c.topic-item.result c.in_ok-take_topic.field-0 _ _ _ c.as_slice-topic-items.ensures refl
    c.loop-topic-test.true c.topic-item.is c.in_ok-take_topic.ensures.answer c.in_ok-take_topic.ensures.fits c.in_ok-take_topic.ensures.after
    c.loop-topic.invariant))

pub returns-clause-fits : goal.returns-clause-fits
returns-clause-fits c =
    let end : length c.args.request.now.topics ≤ c.loop-topic.topic-index = search rules in
    rw c.new.ensures (produce_fits _ _ _ _ c.loop-topic.topic-index c.loop-topic.topics.items c.loop-topic.self c.requires end c.loop-topic.invariant)
