use Rattle.std.proofs.Common.{◌<◌, length, subst, ◌∙◌, refl, arith}
use Rattle.std.proofs.lemmas.List.{length-map}
use Rattle.kp_lanes.specs.Port.{passed, told, asked_at, room, port_id}
use Rattle.kp_lanes.specs.Intake.{common_of}
use Rattle.kp_lanes.proofs.EachLemmas.{here, kept, grown, on_ok, if_err}
use Rattle.kp_lanes.proofs.intake.Intake.report.Goals as goal

pub returns-clause-same : goal.returns-clause-same
returns-clause-same c =
    let same = c.report.ensures.same in let all = c.args.self.now.ports.items in let at = c.index_mut.ensures.value in (
      record {
        lanes = kept (port_id (common_of c.args.self.now)) all c.args.report.sender _ c.report.new.self at (grind (arith, same));
        limits = refl;
        view = refl;
      },
      kept passed all c.args.report.sender _ c.report.new.self at (grind (arith, same)),
      kept asked_at all c.args.report.sender _ c.report.new.self at same.2,
    )

pub returns-clause-ok : goal.returns-clause-ok
returns-clause-ok c =
    let all = c.args.self.now.ports.items in let at = c.index_mut.ensures.value in
    let near : c.args.report.sender < length all = subst (λ k. c.args.report.sender < k) (length-map all (port_id (common_of c.args.self.now))) c.requires in
    on_ok c.report.result (λ more. grown told all c.args.report.sender _ c.report.new.self _ near at more) c.report.ensures.ok

pub returns-clause-full : goal.returns-clause-full
returns-clause-full c =
    let all = c.args.self.now.ports.items in let at = c.index_mut.ensures.value in
    let near : c.args.report.sender < length all = subst (λ k. c.args.report.sender < k) (length-map all (port_id (common_of c.args.self.now))) c.requires in
    if_err c.report.result
    (λ back full. (full.0, kept told all c.args.report.sender _ c.report.new.self at full.1, here room all c.args.report.sender _ 0 near at ∙ full.2))
    c.report.ensures.full
