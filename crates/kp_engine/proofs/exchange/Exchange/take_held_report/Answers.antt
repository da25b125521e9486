use Rattle.std.proofs.Common.{◌≡◌, ◌<◌, length, sym, ◌∙◌, arith}
use Rattle.std.specs.Prelude.{None}
use Rattle.kp_lanes.proofs.EachLemmas.{same_default}
use Rattle.kp_rules.specs.declared.outcome.Report.{Report}
use Rattle.kp_engine.specs.Agreement.{held_at}
use Rattle.kp_engine.proofs.TakingLemmas.{if_some_is}
use Rattle.kp_engine.proofs.exchange.Exchange.take_held_report.Goals as goal

pub returns-clause-its : goal.returns-clause-its
returns-clause-its c =
    let near : c.args.sender < length c.args.self.now.reports.items = omega (arith, c.requires, c.args.self.now.agree.places) in
    let held : c.take.result ≡ held_at c.args.self.now.reports.items c.args.sender =
    c.take.ensures.value ∙ c.index_mut.ensures.value ∙ same_default c.args.self.now.reports.items c.args.sender c.index_mut.result.now None near in
    if_some_is (λ (r : Report). r.sender ≡ c.args.sender) c.take.result (λ r is. c.args.self.now.agree.its_report c.args.sender r (sym held ∙ is))
