use Rattle.std.proofs.Common.{◌≡◌, ◌<◌, ◌++◌, length, take, drop, map, subst, sym, ap, ◌∙◌, arith, rules}
use Rattle.std.specs.List.{AllByRecursion}
use Rattle.std.proofs.Math.Seq.{take-append_seam}
use Rattle.std.proofs.lemmas.List.{length-map}
use Rattle.std.proofs.lemmas.Grind.{common_steps}
use Rattle.std.proofs.lemmas.Option.{gets}
use Rattle.kp_broker.specs.Broker.{leader_after}
use Rattle.kp_broker.proofs.LeaderLemmas.{still_led}
use Rattle.kp_broker.proofs.broker.Broker.move_lead.Goals as goal

pub invariant_of-self : goal.invariant_of-self
invariant_of-self c =
    let f = leader_after c.args.node c.args.to in
    let old = c.self.inside.leaders.items in
    let new = c.replace.new.leaders in
    let ports = c.self.inside.ports.items in
    let are : new ≡ map f old = c.replace.ensures ∙ ap (map f) c.deref_mut.ensures.value in
    let as_many : length new ≡ length old = ap length are ∙ length-map old f in
    let size : length new ≡ c.self.inside.leaders.len = as_many ∙ sym (ap length c.deref_mut.ensures.value) ∙ c.deref_mut.ensures.len in
    let whole : take c.self.inside.leaders.len (new ++ drop (length new) old) ≡ new =
    ap (λ n. take n (new ++ drop (length new) old)) (sym size) ∙ take-append_seam new (drop (length new) old) in
    let there : c.args.to < length ports = search rules in
    record {
      name = c.self.invariant.name;
      text = c.self.invariant.text;
      some_partitions = c.self.invariant.some_partitions;
      few_partitions = c.self.invariant.few_partitions;
      some_nodes = c.self.invariant.some_nodes;
      few_nodes = c.self.invariant.few_nodes;
      led = ap length whole ∙ as_many ∙ c.self.invariant.led;
      by_nodes = subst (AllByRecursion (λ leader. leader < length ports)) (sym (whole ∙ are)) (still_led (length ports) c.args.node c.args.to old there c.self.invariant.by_nodes);
    }

pub returns-then-from-len : goal.returns-then-from-len
returns-then-from-len c =
    let are : c.replace.new.leaders ≡ map (leader_after c.args.node c.args.to) c.deref_mut.result.now = c.replace.ensures in
    grind (arith, common_steps, gets)
