use Rattle.std.proofs.Common.{◌≡◌, rules}
use Rattle.kp_broker.specs.Answers.{id_answer}
use Rattle.kp_broker.proofs.FittingLemmas.{id_fits}
use Rattle.kp_broker.proofs.broker.Broker.id_answer.Goals as goal

pub returns-then-is_some-clause-fits : goal.returns-then-is_some-clause-fits
returns-then-is_some-clause-fits c =
    let told : c.no_id.result ≡ id_answer c.args.self.now c.args.request.now.transactional_id = search rules in
    rw told (id_fits c.args.self.now c.args.request.now.transactional_id)

pub returns-then-self-gt-LAST_PRODUCER_ID-clause-fits : goal.returns-then-self-gt-LAST_PRODUCER_ID-clause-fits
returns-then-self-gt-LAST_PRODUCER_ID-clause-fits c =
    let told : c.no_id-then-self-gt-LAST_PRODUCER_ID.result ≡ id_answer c.args.self.now c.args.request.now.transactional_id = search rules in
    rw told (id_fits c.args.self.now c.args.request.now.transactional_id)

pub returns-clause-fits : goal.returns-clause-fits
returns-clause-fits c =
    let told : c.id_given.result ≡ id_answer c.args.self.now c.args.request.now.transactional_id = search rules in
    rw told (id_fits c.args.self.now c.args.request.now.transactional_id)
