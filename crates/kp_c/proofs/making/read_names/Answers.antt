use Rattle.std.proofs.Common.{ℕ, List, ap, ◌∙◌}
use Rattle.kp_c.proofs.making.read_names.Goals as goal

pub returns-clause-same : goal.returns-clause-same
returns-clause-same c =
    ap (λ (t : List ℕ). record { topic = t; client = c.in_ok-read_client.field-0 }) c.in_ok-read_topic.ensures.same
    ∙ ap (λ (t : List ℕ). record { topic = c.args.topic.now; client = t }) c.in_ok-read_client.ensures.same
