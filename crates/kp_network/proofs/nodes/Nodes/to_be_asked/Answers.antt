use Rattle.std.proofs.Common.{◌≡◌, ℕ, false, true, arith, rules}
use Rattle.std.proofs.lemmas.Iterator.{first_from_Range}
use Rattle.kp_cluster.specs.Metadata.{may_ask}
use Rattle.kp_network.proofs.LinkLemmas.{none_found}
use Rattle.kp_network.proofs.nodes.Nodes.to_be_asked.Goals as goal

pub returns-clause-none : goal.returns-clause-none
returns-clause-none g c = λ none n less.
    let cluster = c.args.self.now.cluster in
    let found = first_from_Range _ _ _ _ (λ (k : ℕ). may_ask k c.args.now cluster ≡ true) (λ (k : ℕ). may_ask k c.args.now cluster ≡ false) c.find.ensures.ran
    (λ x q k. search rules) (λ x q k. (search rules, search rules)) in
    none_found c.find.result _ _ found none n (omega arith) (omega (arith, less, c.nodes.ensures.count))
