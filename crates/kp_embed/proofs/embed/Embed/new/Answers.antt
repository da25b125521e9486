use Rattle.std.proofs.Common.{ℕ, false, List, [], Option, None, ap, ◌∙◌}
use Rattle.kp_cluster.specs.Cluster.{Cluster}
use Rattle.kp_embed.specs.declared.line.Line.{Line}
use Rattle.kp_embed.proofs.ActLemmas.{made}
use Rattle.kp_embed.proofs.embed.Embed.new.Goals as goal

pub returns : goal.returns
returns c =
    let config = c.args.config.producer in
    let names = c.args.names in
    let cluster = c.in_ok-cluster.cluster in
    ap (λ (ns : List ℕ). made false false config names None ns c.new-3.result cluster) c.new-2.ensures.items
    ∙ ap (λ (ls : List (Option Line)). made false false config names None [] ls cluster) c.new-3.ensures
    ∙ ap (λ (k : Cluster). made false false config names None [] [] k) c.in_ok-cluster.ensures
