use Rattle.std.proofs.Common.{◌≡◌, ◌⊎◌, ◌+◌, ◌<◌, ℕ, List, [], length, sym, subst, refl, arith}
use Rattle.std.proofs.lemmas.List.{length-map}
use Rattle.kp_lanes.specs.Port.{passed, taken, told, asked_at, port_id, seen, places, Extends, HasNothing}
use Rattle.kp_lanes.specs.declared.entry.Entry.{Entry}
use Rattle.kp_lanes.specs.Intake.{common_of}
use Rattle.kp_lanes.proofs.EachLemmas.{here, here_set, related, else_set, kept, grown, if_some, if_none}
use Rattle.kp_lanes.proofs.intake.Intake.take.Goals as goal

pub returns-clause-same : goal.returns-clause-same
returns-clause-same c =
    let same = c.take.ensures.same in let all = c.args.self.now.ports.items in let at = c.index_mut.ensures.value in (
      record {
        lanes = kept (port_id (common_of c.args.self.now)) all c.args.sender _ c.take.new.self at (grind (arith, same));
        limits = refl;
        view = refl;
      },
      kept told all c.args.sender _ c.take.new.self at (grind (arith, same)),
      kept asked_at all c.args.sender _ c.take.new.self at same.1,
    )

pub returns-clause-some : goal.returns-clause-some
returns-clause-some c =
    let all = c.args.self.now.ports.items in let at = c.index_mut.ensures.value in
    let near : c.args.sender < length all = subst (λ k. c.args.sender < k) (length-map all (port_id (common_of c.args.self.now))) c.requires in
    if_some c.take.result (λ x some more. grown taken all c.args.sender _ c.take.new.self x near at some.0) c.take.ensures.some c.take.ensures.some

pub returns-clause-none : goal.returns-clause-none
returns-clause-none c = if_none c.take.result (λ none. kept taken c.args.self.now.ports.items c.args.sender _ c.take.new.self c.index_mut.ensures.value none.0) c.take.ensures.none

pub returns-clause-passed : goal.returns-clause-passed
returns-clause-passed c =
    let all = c.args.self.now.ports.items in let at = c.index_mut.ensures.value in
    let near : c.args.sender < length all = subst (λ k. c.args.sender < k) (length-map all (port_id (common_of c.args.self.now))) c.requires in (
      related Extends passed all c.args.sender _ c.take.new.self [] near at c.take.ensures.passed,
      λ k other. else_set passed all c.args.sender k c.take.new.self [] other,
    )

pub returns-clause-nothing : goal.returns-clause-nothing
returns-clause-nothing c =
    let all = c.args.self.now.ports.items in let i = c.args.sender in let old = c.index_mut.result.now in let new = c.take.new.self in
    let near : i < length all = subst (λ k. i < k) (length-map all (port_id (common_of c.args.self.now))) c.requires in
    let here_seen = here_set seen all i new [] near in let here_passed = here_set passed all i new [] near in
    let before = here passed all i old [] near c.index_mut.ensures.value in let wide = here places all i old 0 near c.index_mut.ensures.value in
    if_none c.take.result
    (λ none. subst (λ (z : List Entry × List Entry × List Entry × ℕ). HasNothing c.args.self.now.limits i z.0 ⊎ (length z.1 ≡ length z.2 + z.3))
    (λ k. (sym here_seen k, sym here_passed k, sym before k, sym wide k)) none.1)
    c.take.ensures.none
