use Rattle.kp_c.proofs.ReportLemmas.{SoFar, so_far_more, so_far_none}
use Rattle.kp_c.proofs.ending.fetch.Goals as goal
use Rattle.std.proofs.Common.{◌+◌, ◌<◌, length, slice_set, arith, sym, subst}
use Rattle.kp_c.specs.declared.values.KpReport.{KpReport}

pub loop-place-init : goal.loop-place-init
loop-place-init c = so_far_none c.args.embed.now c.args.room.now

pub loop-place-preserved : goal.loop-place-preserved
loop-place-preserved c =
    let l = c.loop-place in
    let s = l.invariant in
    let within : l.place < length l.room = omega arith in
    subst (λ (told : KpReport). SoFar (l.place + 1) c.args.embed.now c.args.room.now c.next_report.new.self (slice_set l.room l.place told)) (sym c.of.ensures)
    (so_far_more l.place c.args.embed.now c.args.room.now l.embed c.next_report.new.self l.room c.in-Some.report within s c.in-Some.ensures.calls)
