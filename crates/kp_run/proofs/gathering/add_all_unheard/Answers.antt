use Rattle.std.proofs.Common.{◌≡◌, ◌++◌, ◌∙◌, [], List, ap, arith}
use Rattle.std.specs.Prelude.{slice_index_or}
use Rattle.kp_engine.specs.Parts.{to_sender}
use Rattle.kp_lanes.specs.Settling.{left_reports}
use Rattle.kp_rules.specs.Records.{Core}
use Rattle.kp_rules.specs.declared.outcome.Report.{Report}
use Rattle.kp_run.specs.Gathered.{unheard_of}
use Rattle.kp_run.proofs.GatheredLemmas.{here_or_later, unheard_more}
use Rattle.kp_run.proofs.gathering.add_all_unheard.Goals as goal

pub loop-sender-preserved : goal.loop-sender-preserved
loop-sender-preserved c =
    let n = c.loop-sender.sender in
    let rings = c.args.rings.now in
    let held = c.args.held.now in
    let first = c.args.core.now in
    let old = c.loop-sender.core in
    let new = c.add_unheard.new.core in
    let so_far = c.loop-sender.invariant in
    let added = c.in_ok-add_unheard.ensures.added in
    let fetched = c.in_ok-add_unheard.ensures.fetched in
    let its : unheard_of rings held old n ≡ unheard_of rings held first n =
    ap (λ (rs : List Report). slice_index_or (left_reports rings) n [] ++ to_sender n held ++ rs) (so_far.others n (omega arith)) in
    record {
      added = unheard_more (unheard_of rings held first) (unheard_of rings held old) n c.args.reports.now.items c.loop-sender.reports.items
          c.add_unheard.new.reports.items so_far.added added its;
      same = fetched.same ∙ ap (λ (core : Core). record core { reports = new.reports }) so_far.same;
      others = λ i low. fetched.others i (here_or_later i n low) ∙ so_far.others i (omega (arith, low));
    }
