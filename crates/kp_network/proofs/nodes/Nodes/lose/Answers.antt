use Rattle.kp_network.proofs.nodes.Nodes.lose.Goals as goal

pub returns-clause-lost : goal.returns-clause-lost
returns-clause-lost g c = assumption
