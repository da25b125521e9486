use Rattle.std.proofs.Common.{◌≡◌, ◌∙◌, not, List, [], ◌∷◌, ◌++◌, ap, rules}
use Rattle.std.specs.Prelude.{filter}
use Rattle.std.proofs.lemmas.Fn.{filter_same}
use Rattle.kp_engine.specs.Lines.{is_given_up}
use Rattle.kp_engine.specs.declared.node_line.NodeLine.{NodeLine}
use Rattle.kp_engine.proofs.cluster.ClusterEngine.connect.Goals as goal

pub returns-clause-lines : goal.returns-clause-lines
returns-clause-lines g c =
    let others : c.retain.new.self.items ≡ filter (λ l. not (is_given_up c.args.node l)) c.reserve.new.self.items =
    filter_same _ _ _ (λ r b f k. search rules) _ _ c.retain.ensures.filtered in
    record {
      last = c.new.result;
      fresh = c.new.ensures;
      all = c.push_reserved.ensures.items ∙ ap (λ (ls : List (NodeLine g.row.S.Denot)). ls ++ c.new.result ∷ []) (others ∙ ap (filter (λ l. not (is_given_up c.args.node l))) c.reserve.ensures.items);
    }
