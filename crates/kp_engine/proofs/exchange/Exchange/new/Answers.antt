use Rattle.std.proofs.Common.{◌≡◌, ℕ, List, length, sym, ap, ◌∙◌, subst, arith}
use Rattle.std.specs.Prelude.{Option, None, replicate}
use Rattle.std.proofs.lemmas.List.{length-replicate}
use Rattle.kp_accum.specs.declared.item.Item.{Item}
use Rattle.kp_rules.specs.declared.outcome.Report.{Report}
use Rattle.kp_engine.specs.Agreement.{Agree}
use Rattle.kp_engine.proofs.FreshLemmas.{fresh_agrees}
use Rattle.kp_engine.proofs.exchange.Exchange.new.Goals as goal

pub invariant_of-result : goal.invariant_of-result
invariant_of-result c =
    let n = length c.args.core.reports in
    let items : c.in-Ok.items.items ≡ replicate n None = c.in-Ok.ensures ∙ ap (λ (k : ℕ). replicate k None) c.senders-senders.ensures in
    let reports : c.in-Ok-no_reports.reports.items ≡ replicate n None = c.in-Ok-no_reports.ensures ∙ ap (λ (k : ℕ). replicate k None) c.senders-senders.ensures in
    let many : length c.in-Ok.items.items ≡ n = ap length items ∙ length-replicate {A = Option Item} n None in
    let rooms : length c.in-Ok-no_reports.reports.items ≡ n = ap length reports ∙ length-replicate {A = Option Report} n None in record {
      agree = subst (λ (xs : List (Option Item)). Agree c.args.core c.args.intake xs c.in-Ok-no_reports.reports.items) (sym items)
          (subst (λ (ys : List (Option Report)). Agree c.args.core c.args.intake (replicate n None) ys) (sym reports) (fresh_agrees c.args.core c.args.intake c.requires));
      nothing_yet = (c.in-Ok-room.ensures.items.0, c.in-Ok-room.ensures.reports.0);
      room = (
        omega (arith, many, c.senders-senders.ensures, c.in-Ok-room.ensures.items.1),
        omega (arith, rooms, c.senders-senders.ensures, c.in-Ok-room.ensures.reports.1),
      );
    }

pub returns-clause-turn : goal.returns-clause-turn
returns-clause-turn c = c.new.ensures.entries

pub returns-clause-notes : goal.returns-clause-notes
returns-clause-notes c = c.new.ensures.notes
