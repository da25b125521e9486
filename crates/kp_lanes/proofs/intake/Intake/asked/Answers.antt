use Rattle.std.proofs.Common.{◌<◌, ℕ, List, [], length, set, map, subst, sym, ap, ◌∙◌, refl, arith}
use Rattle.std.proofs.lemmas.List.{length-map, map-set}
use Rattle.kp_lanes.specs.Port.{passed, told, asked_at, port_id}
use Rattle.kp_lanes.specs.Intake.{common_of}
use Rattle.kp_lanes.specs.Entries.{TookMark}
use Rattle.kp_lanes.specs.declared.entry.Entry.{Entry}
use Rattle.kp_lanes.proofs.EachLemmas.{here, kept}
use Rattle.kp_lanes.proofs.EntryLemmas.{took_mark}
use Rattle.kp_lanes.proofs.intake.Intake.asked.Goals as goal

pub returns-clause-since : goal.returns-clause-since
returns-clause-since c =
    let all = c.args.self.now.ports.items in let at = c.index_mut.ensures.value in
    let near : c.args.sender < length all = subst (λ k. c.args.sender < k) (length-map all (port_id (common_of c.args.self.now))) c.requires in
    map-set asked_at all c.args.sender c.asked.new.self ∙ ap (set (map asked_at all) c.args.sender) (c.asked.ensures.since ∙ ap length (sym (here passed all c.args.sender _ [] near at)))

pub returns-clause-mark : goal.returns-clause-mark
returns-clause-mark c =
    let all = c.args.self.now.ports.items in let at = c.index_mut.ensures.value in let port = c.index_mut.result.now in
    let near : c.args.sender < length all = subst (λ k. c.args.sender < k) (length-map all (port_id (common_of c.args.self.now))) c.requires in
    λ yes. subst (λ (z : ℕ × List Entry). TookMark z.0 z.1)
    (λ k. (sym (here asked_at all c.args.sender port 0 near at) k, sym (here passed all c.args.sender port [] near at) k))
    (took_mark (asked_at port) (passed port) port.later (sym c.asked.ensures.answer ∙ yes))

pub returns-clause-same : goal.returns-clause-same
returns-clause-same c =
    let same = c.asked.ensures.same in let all = c.args.self.now.ports.items in let at = c.index_mut.ensures.value in (
      record {
        lanes = kept (port_id (common_of c.args.self.now)) all c.args.sender _ c.asked.new.self at (grind (arith, same));
        limits = refl;
        view = refl;
      },
      kept passed all c.args.sender _ c.asked.new.self at (grind (arith, same)),
      kept told all c.args.sender _ c.asked.new.self at (grind (arith, same)),
    )
