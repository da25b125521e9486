use Rattle.std.proofs.Common.{◌∙◌, ℕ, List, refl, sym, ap, subst, arith}
use Rattle.std.specs.Prelude.{filter, ◌&&◌, ◌==◌}
use Rattle.kp_core.specs.Keeping.{IsKept, seen_of}
use Rattle.kp_rules.specs.Attempts.{is_live}
use Rattle.kp_rules.specs.Records.{Core, Partition}
use Rattle.kp_rules.specs.Telling.{at_each, with_partitions}
use Rattle.kp_rules.specs.Tick.{heed_deadlines}
use Rattle.kp_parts.specs.Desk.{Covers}
use Rattle.kp_core.proofs.KeepingLemmas.{covers_told, told_kept}
use Rattle.kp_core.proofs.LeavingLemmas.{heeded_left}
use Rattle.kp_core.proofs.SettledLemmas.{count_told, heeded-is}
use Rattle.kp_core.proofs.machine.Core.heed_deadlines.Goals as goal

pub heed_each-requires : goal.heed_each-requires
unfolding at_each with_partitions
heed_each-requires c = covers_told c.self.invariant (heeded_left c.args.now (seen_of c.self.inside) c.self.invariant.order)

pub invariant_of-self : goal.invariant_of-self
unfolding at_each with_partitions
invariant_of-self c =
    let s = seen_of c.self.inside in
    let left = heeded_left c.args.now s c.self.invariant.order in
    let covers : Covers c.self.inside.desk (at_each (heed_deadlines s.config c.args.now) s).told = covers_told c.self.invariant left in
    let is = heeded-is c.args.now s c.heed_each.new.self c.keep_live.new.requests.items c.is_still_exhausted-self-inside.result c.self.inside.desk c.heed_each.new.desk
    refl covers c.heed_each.ensures.after c.heed_each.ensures.told
    (c.keep_live.ensures ∙ ap (λ (ts : List Partition). filter (is_live ts) s.requests) c.all.ensures)
    (c.is_still_exhausted-self-inside.ensures ∙ ap (λ (n : ℕ). c.self.inside.exhausted && (n == 0)) (omega (arith, c.untold-untold.ensures, c.untold.ensures))) in
    subst (λ (x : Core). IsKept x c.heed_each.new.desk) (sym is)
    (told_kept c.self.invariant left c.heed_each.ensures.told)

pub returns-clause-after : goal.returns-clause-after
unfolding at_each with_partitions
returns-clause-after c =
    let s = seen_of c.self.inside in
    let covers : Covers c.self.inside.desk (at_each (heed_deadlines s.config c.args.now) s).told = covers_told c.self.invariant (heeded_left c.args.now s c.self.invariant.order) in
    heeded-is c.args.now s c.heed_each.new.self c.keep_live.new.requests.items c.is_still_exhausted-self-inside.result c.self.inside.desk c.heed_each.new.desk
    refl covers c.heed_each.ensures.after c.heed_each.ensures.told
    (c.keep_live.ensures ∙ ap (λ (ts : List Partition). filter (is_live ts) s.requests) c.all.ensures)
    (c.is_still_exhausted-self-inside.ensures ∙ ap (λ (n : ℕ). c.self.inside.exhausted && (n == 0)) (omega (arith, c.untold-untold.ensures, c.untold.ensures)))
    ∙ ap (λ (x : Core). (at_each (heed_deadlines x.config c.args.now) x).after) c.self.view_is

pub returns-clause-told : goal.returns-clause-told
unfolding at_each with_partitions
returns-clause-told c =
    let s = seen_of c.self.inside in
    let covers : Covers c.self.inside.desk (at_each (heed_deadlines s.config c.args.now) s).told = covers_told c.self.invariant (heeded_left c.args.now s c.self.invariant.order) in
    let told = count_told (at_each (heed_deadlines s.config c.args.now) s).told c.self.inside.desk c.heed_each.new.desk covers c.heed_each.ensures.told in
    omega (arith, c.untold-untold.ensures, c.untold.ensures, told, ap (λ (x : Core). (at_each (heed_deadlines x.config c.args.now) x).answer) c.self.view_is)
