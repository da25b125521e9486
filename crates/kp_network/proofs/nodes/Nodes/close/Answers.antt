use Rattle.std.proofs.Common.{Bool, List, None, Some, ap, sym, ◌∙◌}
use Rattle.std.specs.Prelude.{if◌then◌else◌}
use Rattle.kp_network.specs.Links.{has}
use Rattle.kp_network.specs.declared.link.Link.{Link}
use Rattle.kp_network.proofs.nodes.Nodes.close.Goals as goal

pub returns-then-had : goal.returns-then-had
returns-then-had g c = record {
  lost = c.lose.ensures.lost;
  away = c.lose.ensures.away;
  others = c.lose.ensures.others;
  had = ap (λ (had : Bool). if had then Some c.args.node else None) (sym c.if-had.true ∙ c.has-had.ensures ∙ ap (λ (links : List (Link _)). has c.args.node links) c.deref.ensures.value);
}

pub returns-else-had : goal.returns-else-had
returns-else-had g c = record {
  lost = c.lose.ensures.lost;
  away = c.lose.ensures.away;
  others = c.lose.ensures.others;
  had = ap (λ (had : Bool). if had then Some c.args.node else None) (sym c.if-had.false ∙ c.has-had.ensures ∙ ap (λ (links : List (Link _)). has c.args.node links) c.deref.ensures.value);
}
