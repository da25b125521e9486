use Rattle.std.proofs.Common.{sym, ap, ◌∙◌}
use Rattle.kp_cluster.specs.Actions.{Told}
use Rattle.kp_embed.specs.Producer.{with_cluster}
use Rattle.kp_c.specs.Connections.{Tells}
use Rattle.kp_c.specs.Values.{told_action}
use Rattle.kp_c.proofs.HeldLemmas.{makes}
use Rattle.kp_c.proofs.connections.kp_producer_next_action.Goals as goal

pub returns-clause-told : goal.returns-clause-told
returns-clause-told c = λ _.
    let told = sym c.next_action.ensures.told in
    makes (Tells c.args.now c.of.result) _ _ _ _ _ c.in-Some.ensures.some c.deref_mut.ensures.value c.put.ensures (record {
      is = c.of.ensures ∙ ap (λ (t : Told). told_action t.action) told;
      cluster = c.next_action.ensures.same ∙ ap (λ (t : Told). with_cluster t.cluster c.deref_mut.result.now) told;
    })
