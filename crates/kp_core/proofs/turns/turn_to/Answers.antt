use Rattle.std.proofs.Common.{◌≡◌, ◌∙◌, not, List, [], ◌∷◌, ◌++◌, sym, ap, rules}
use Rattle.std.specs.Prelude.{filter, ◌==◌}
use Rattle.std.proofs.lemmas.Fn.{filter_same}
use Rattle.kp_rules.specs.Records.{Turn}
use Rattle.kp_core.proofs.TurnedLemmas.{turned-is}
use Rattle.kp_core.proofs.turns.turn_to.Goals as goal

pub returns-in_ok-reserve-in-Some-clause-ok : goal.returns-in_ok-reserve-in-Some-clause-ok
returns-in_ok-reserve-in-Some-clause-ok c =
    let one : Turn = record { node = c.args.node; last_used = c.in-Some.last_used } in
    let others : c.retain.new.self.items ≡ filter (λ x. not (x.node == c.args.node)) c.reserve.new.self.items =
    filter_same _ _ _ (λ r b f k. search rules) _ _ c.retain.ensures.filtered in
    c.push_reserved.ensures.items ∙ ap (λ (xs : List Turn). xs ++ one ∷ []) (others ∙ ap (filter (λ x. not (x.node == c.args.node))) c.reserve.ensures.items)
    ∙ turned-is c.args.node c.args.chosen.now c.args.turns.now.items _ (sym c.last_chosen.ensures ∙ c.in-Some.is)
