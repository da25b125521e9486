use Rattle.std.proofs.Common.{◌≡◌, true, ap, arith}
use Rattle.std.proofs.lemmas.Grind.{common_steps}
use Rattle.std.proofs.lemmas.Option.{gets}
use Rattle.kp_frames.specs.declared.produce.PartitionProduceResponse.{PartitionProduceResponse}
use Rattle.kp_broker.specs.Answers.{NOT_LEADER_OR_FOLLOWER}
use Rattle.kp_broker.proofs.broker.Broker.take_part.Goals as goal

pub returns-then-not-leads-clause-answer : goal.returns-then-not-leads-clause-answer
returns-then-not-leads-clause-answer c =
    let code : c.entry_of.result.error_code ≡ NOT_LEADER_OR_FOLLOWER = ap (λ (e : PartitionProduceResponse). e.error_code) c.entry_of.ensures.answer in
    grind (arith, common_steps, gets)

pub returns-clause-answer : goal.returns-clause-answer
returns-clause-answer c =
    let led : c.leads.result ≡ true = assumption c in
    grind (arith, common_steps, gets)

pub returns-clause-after : goal.returns-clause-after
returns-clause-after c =
    let led : c.leads.result ≡ true = assumption c in
    grind (arith, common_steps, gets)
