use Rattle.std.proofs.Common.{◌≡◌, ◌∙◌, ◌-◌, ℕ, Bool, List, Some, true, length, sym, ap, eq-eqb}
use Rattle.std.specs.Prelude.{◌&&◌, ◌==◌}
use Rattle.std.specs.List.{list_all, slice_get}
use Rattle.kp_rules.specs.Partitions.{leads, partition_at}
use Rattle.kp_core.specs.ByLeader.{by_leader}
use Rattle.kp_core.proofs.WorkLemmas.{ends_tell}
use Rattle.kp_core.proofs.machine.partitions.leaders.leads_all.Goals as goal

pub returns-then-leader_of-node : goal.returns-then-leader_of-node
returns-then-leader_of-node c =
    let ts = c.args.partitions.now in
    let its : ℕ → Bool = λ p. leads c.args.node (partition_at p ts) in
    let first = c.in-Some-Some.first.now in
    let last = c.in-Some-Some.last.now in
    let from : slice_get (by_leader ts) 0 ≡ Some first = ap (λ (ps : List ℕ). slice_get ps 0) (sym c.requires) ∙ sym c.in-Some-Some.ensures.value in
    let to : slice_get (by_leader ts) (length (by_leader ts) - 1) ≡ Some last = ap (λ (ps : List ℕ). slice_get ps (length ps - 1)) (sym c.requires) ∙ sym c.in-Some-Some.ensures'.value in
    let leads_first : its first ≡ true = eq-eqb (partition_at first ts).leader c.args.node (sym c.leader_of.ensures ∙ c.if-leader_of-node.true) in
    ap (λ (n : ℕ). n == c.args.node) c.leader_of-then-leader_of-node.ensures ∙ sym (ap (λ (b : Bool). b && its last) leads_first)
    ∙ ends_tell c.args.node first last ts from to ∙ ap (list_all its) (sym c.requires)
