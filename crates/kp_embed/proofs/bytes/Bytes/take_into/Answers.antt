use Rattle.std.proofs.Common.{drop, sym, ap, ◌∙◌}
use Rattle.std.proofs.lemmas.List.{drop-drop}
use Rattle.kp_embed.proofs.bytes.Bytes.take_into.Goals as goal

pub returns-clause-rest : goal.returns-clause-rest
returns-clause-rest c =
    sym (drop-drop c.min-count.result c.self.inside.taken c.self.inside.frame.items) ∙ ap (drop c.min-count.result) c.self.view_is
