use Rattle.std.proofs.Common.{[], ◌∷◌, ◌++◌, take, ap, ◌∙◌}
use Rattle.kp_c.proofs.ReportLemmas.{runs_more, runs_none}
use Rattle.kp_c.specs.Values.{reports_in}
use Rattle.kp_c.specs.declared.values.KpReport.{KpReport}
use Rattle.kp_c.proofs.ending.fetch_runs.Goals as goal

pub loop-place-init : goal.loop-place-init
loop-place-init c = runs_none c.args.embed.now c.args.room.now

pub loop-place-preserved : goal.loop-place-preserved
loop-place-preserved c =
    let a = c.args in
    let l = c.loop-place in
    let added = c.add-count.ensures in
    runs_more l._place a.embed.now a.room.now l.embed c.next_report.new.self l.room c.add-count.new.room l.count c.add-count.result c.in-Some.report l.invariant c.in-Some.ensures.calls
    (added.added ∙ ap (λ (r : KpReport). reports_in (take l.count l.room) ++ r ∷ []) c.of.ensures) added.count added.same
