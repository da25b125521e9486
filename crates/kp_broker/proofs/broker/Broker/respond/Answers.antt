use Rattle.std.proofs.Common.{ℕ, subst, rules}
use Rattle.std.specs.Global.{Vec}
use Rattle.kp_frames.specs.Request.{FitsBody}
use Rattle.kp_broker.specs.Answering.{Responds}
use Rattle.kp_broker.proofs.FittingLemmas.{request_body_fits}
use Rattle.kp_broker.proofs.broker.Broker.respond.Goals as goal

pub take_all-requires : goal.take_all-requires
take_all-requires c = subst FitsBody c.in-Produce.is (request_body_fits c.args.request.now c.requires)

pub describe-requires : goal.describe-requires
describe-requires c = subst FitsBody c.in-Metadata.is (request_body_fits c.args.request.now c.requires)

pub returns-in_err-frame-in-InitProducerId : goal.returns-in_err-frame-in-InitProducerId
returns-in_err-frame-in-InitProducerId c =
    let refused : Responds (λ (bytes : Vec ℕ). bytes.items) c.args.whim c.args.node c.args.self.now c.args.request.now c.from_residual-in_err-frame-in-InitProducerId.result c.args.self.now = search rules in
    refused
