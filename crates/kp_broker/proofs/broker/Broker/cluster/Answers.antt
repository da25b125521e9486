use Rattle.std.proofs.Common.{◌≡◌, ◌∙◌, length, sym, ap, rules}
use Rattle.std.specs.List.{range_with_len}
use Rattle.std.proofs.lemmas.List.{length-map, length-replicate}
use Rattle.std.proofs.lemmas.List.FromFn.{length-range_with_len}
use Rattle.kp_log.specs.Log.{empty}
use Rattle.kp_broker.specs.Broker.{first_leader}
use Rattle.kp_broker.proofs.LeaderLemmas.{first_led}
use Rattle.kp_broker.proofs.broker.Broker.cluster.Goals as goal

pub invariant_of-result : goal.invariant_of-result
invariant_of-result c =
    let n = c.args.partitions in
    let ports : c.in_ok-ports.ports.items ≡ c.args.ports.now = search rules in
    let leaders : length c.in_ok-leaders.leaders.items ≡ n =
    ap length c.in_ok-leaders.ensures ∙ length-map (range_with_len 0 n) (first_leader c.args.ports.now) ∙ length-range_with_len 0 n in
    let logs : length c.in_ok-logs.logs.items ≡ n = ap length c.in_ok-logs.ensures ∙ length-replicate n empty in
    let led = first_led c.args.ports.now 0 n c.requires.some_nodes in
    record {
      name = search rules;
      text = search rules;
      some_partitions = rw logs c.requires.some_partitions;
      few_partitions = rw logs c.requires.few_partitions;
      some_nodes = rw ports c.requires.some_nodes;
      few_nodes = rw ports c.requires.few_nodes;
      led = leaders ∙ sym logs;
      by_nodes = rw (ports, c.in_ok-leaders.ensures) led;
    }
