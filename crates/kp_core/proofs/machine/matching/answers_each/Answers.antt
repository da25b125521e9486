use Rattle.std.proofs.Common.{ℕ, ◌<◌, length, sym, subst, rules}
use borrow.Author.Tests.{tests}
use Rattle.std.proofs.lemmas.Iterator.{YieldsList-from_slice}
use Rattle.std.proofs.lemmas.Iterator.Adapters.{serves_from_places}
use Rattle.std.proofs.lemmas.Iterator.Search.{all_from_yields_List}
use Rattle.std.proofs.lemmas.List.Elements.{All-from_recursion}
use Rattle.kp_rules.specs.Partitions.{partition_at}
use Rattle.kp_core.specs.Matching.{answers_one}
use Rattle.kp_core.proofs.machine.matching.answers_each.Goals as goal

pub all-requires-clause-callable : goal.all-requires-clause-callable
all-requires-clause-callable c =
    let n = length c.args.partitions.now in
    let chosen = c.args.chosen.now in
    serves_from_places (YieldsList-from_slice chosen cc) (λ x q k. search rules)
    (λ x k l at. let here : x.now < n = subst (λ (p : ℕ). p < n) (sym at) (All-from_recursion (λ p. p < n) chosen c.requires k x.now l) in search rules)

pub returns : goal.returns
returns c = λ xs are.
    all_from_yields_List (λ p. answers_one xs c.args.correlation p (partition_at p c.args.partitions.now)) _ _ _ c.all.ensures.ran
    (YieldsList-from_slice c.args.chosen.now cc) (λ x b q k. search (rules, tests))
