use Rattle.std.proofs.Common.{◌≡◌, ◌-◌, ◌∙◌, sym, ap, option_copied, arith}
use Rattle.std.specs.List.{slice_get}
use Rattle.std.proofs.lemmas.Grind.{common_steps}
use Rattle.std.proofs.lemmas.Option.{gets}
use Rattle.kp_log.proofs.SegmentLemmas.{IsFound, none_begun, last_begun}
use Rattle.kp_log.proofs.segments.find.Goals as goal

pub returns-in_err-segment : goal.returns-in_err-segment
returns-in_err-segment c =
    ap option_copied c.from_residual.ensures ∙ sym (none_begun c.args.full.now c.requires c.args.offset c.begun_by.result c.begun_by.ensures.begun c.in_err-segment.ensures.item.3)

pub overflow_sub-offset : goal.overflow_sub-offset
overflow_sub-offset c =
    (last_begun c.args.full.now c.requires c.args.offset c.begun_by.result c.in_ok-segment.segment.now c.begun_by.ensures.bound c.begun_by.ensures.begun c.in_ok-segment.ensures.value).begins

pub returns : goal.returns
returns c =
    let found : IsFound c.args.full.now c.args.offset c.in_ok-segment.segment.now = last_begun c.args.full.now c.requires c.args.offset c.begun_by.result c.in_ok-segment.segment.now c.begun_by.ensures.bound c.begun_by.ensures.begun c.in_ok-segment.ensures.value in
    let got : option_copied c.get.result ≡ slice_get c.in_ok-segment.segment.now.records.items (c.args.offset - c.in_ok-segment.segment.now.first) = grind (arith, common_steps, gets) in
    got ∙ sym found.found
