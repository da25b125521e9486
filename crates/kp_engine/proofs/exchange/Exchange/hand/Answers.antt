use Rattle.std.proofs.Common.{◌≡◌, ℕ, ◌<◌, List, [], length, get_or, sym, ap, ◌∙◌, subst, arith}
use Rattle.std.specs.Prelude.{Some, None}
use Rattle.std.proofs.lemmas.List.{get_or-set_same}
use Rattle.kp_lanes.specs.Intake.{room_of}
use Rattle.kp_rules.specs.declared.outcome.Report.{Report}
use Rattle.kp_engine.proofs.exchange.Exchange.hand.Goals as goal

pub returns-in-Err-clause-hands : goal.returns-in-Err-clause-hands
returns-in-Err-clause-hands c =
    let full = c.in-Err.ensures.full in
    let near : c.args.sender < length c.args.self.now.reports.items = omega (arith, c.requires.place, c.args.self.now.agree.places) in
    let told = ap (λ (l : List (List Report)). get_or l c.args.sender []) full.1 in (
      told,
      get_or-set_same c.args.self.now.reports.items c.args.sender (Some c.in-Err.back) None near ∙ ap (λ (r : Report). Some r) full.0,
      record {
        before = c.args.self.now.intake;
        lanes = sym c.report.ensures.same.0.lanes;
        no_room = subst (λ (n : ℕ). room_of c.args.self.now.intake n ≡ 0) c.requires.its full.2;
        since = told;
      },
    )
