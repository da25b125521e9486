use Rattle.std.proofs.Common.{◌∙◌, sym}
use Rattle.std.specs.List.{list_any}
use Rattle.std.proofs.lemmas.Int.{to_z-of_z}
use Rattle.kp_cluster.specs.Learning.{is_node}
use Rattle.kp_cluster.proofs.LearningLemmas.{none_either_way}
use Rattle.kp_cluster.proofs.learning.leader_slot.Goals as goal

pub returns-in_default-2 : goal.returns-in_default-2
returns-in_default-2 c =
    let found = rw (to_z-of_z _ _ c.ranges.id) at c.slot_of.ensures in
    none_either_way (list_any (is_node c.args.id) c.args.nodes.now) _ (sym found ∙ c.in_default.is)
