use Rattle.std.proofs.Common.{◌∙◌, refl, sym, ap, subst, arith}
use Rattle.std.specs.Prelude.{◌&&◌, ◌==◌}
use Rattle.kp_core.specs.Keeping.{IsKept, seen_of}
use Rattle.kp_rules.specs.Closing.{end_all}
use Rattle.kp_rules.specs.Records.{Core}
use Rattle.kp_rules.specs.Telling.{at_each, with_partitions}
use Rattle.kp_parts.specs.Desk.{Covers}
use Rattle.kp_core.proofs.KeepingLemmas.{covers_told, told_kept}
use Rattle.kp_core.proofs.LeavingLemmas.{ended_left}
use Rattle.kp_core.proofs.SettledLemmas.{count_told, ended-is}
use Rattle.kp_core.proofs.machine.Core.end_all.Goals as goal

pub give_up_each-requires : goal.give_up_each-requires
unfolding at_each with_partitions
give_up_each-requires c = covers_told c.self.invariant (ended_left (seen_of c.self.inside) c.self.invariant.order)

pub invariant_of-self : goal.invariant_of-self
unfolding at_each with_partitions
invariant_of-self c =
    let s = seen_of c.self.inside in
    let left = ended_left s c.self.invariant.order in
    let covers : Covers c.self.inside.desk (end_all s).told = covers_told c.self.invariant left in
    let is = ended-is s c.give_up_each.new.self c.clear.new.self.items c.is_still_exhausted-self-inside.result c.self.inside.desk c.give_up_each.new.desk
    refl covers c.give_up_each.ensures.after c.give_up_each.ensures.told c.clear.ensures.items
    (c.is_still_exhausted-self-inside.ensures ∙ ap (λ n. c.self.inside.exhausted && (n == 0)) (omega (arith, c.untold-untold.ensures, c.untold.ensures))) in
    subst (λ (x : Core). IsKept x c.give_up_each.new.desk) (sym is)
    (told_kept c.self.invariant left c.give_up_each.ensures.told)

pub returns-clause-after : goal.returns-clause-after
unfolding at_each with_partitions
returns-clause-after c =
    let s = seen_of c.self.inside in
    let covers : Covers c.self.inside.desk (end_all s).told = covers_told c.self.invariant (ended_left s c.self.invariant.order) in
    ended-is s c.give_up_each.new.self c.clear.new.self.items c.is_still_exhausted-self-inside.result c.self.inside.desk c.give_up_each.new.desk
    refl covers c.give_up_each.ensures.after c.give_up_each.ensures.told c.clear.ensures.items
    (c.is_still_exhausted-self-inside.ensures ∙ ap (λ n. c.self.inside.exhausted && (n == 0)) (omega (arith, c.untold-untold.ensures, c.untold.ensures)))
    ∙ ap (λ (x : Core). (end_all x).after) c.self.view_is

pub returns-clause-told : goal.returns-clause-told
unfolding at_each with_partitions
returns-clause-told c =
    let s = seen_of c.self.inside in
    let covers : Covers c.self.inside.desk (end_all s).told = covers_told c.self.invariant (ended_left s c.self.invariant.order) in
    let told = count_told (end_all s).told c.self.inside.desk c.give_up_each.new.desk covers c.give_up_each.ensures.told in
    omega (arith, c.untold-untold.ensures, c.untold.ensures, told, ap (λ (x : Core). (end_all x).answer) c.self.view_is)
