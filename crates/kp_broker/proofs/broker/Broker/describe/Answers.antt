use Rattle.std.proofs.Common.{◌≡◌, subst, rules}
use Rattle.std.specs.List.{AllByRecursion}
use Rattle.kp_frames.specs.Metadata.{broker}
use Rattle.kp_broker.specs.Answers.{nodes_metadata}
use Rattle.kp_broker.proofs.FittingLemmas.{Sound, metadata_fits}
use Rattle.kp_broker.proofs.broker.Broker.describe.Goals as goal

pub returns-clause-fits : goal.returns-clause-fits
returns-clause-fits c =
    let sound : Sound c.args.self.now = subst Sound c.self.view_is c.self.invariant in
    let are : c.in_ok-describe_nodes.field-0 ≡ nodes_metadata c.args.self.now.ports = search rules in
    let nodes : AllByRecursion broker.Fits (nodes_metadata c.args.self.now.ports) = subst (AllByRecursion broker.Fits) are c.in_ok-describe_nodes.ensures.fits in
    rw (are, c.in_ok-describe_topics.ensures) (metadata_fits c.args.self.now c.args.request.now sound nodes c.requires)
