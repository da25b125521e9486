use Rattle.std.proofs.Common.{refl, ap, sym, ◌∙◌}
use Rattle.kp_engine.specs.declared.parts.Parts.{Parts}
use Rattle.kp_client.proofs.EndLemmas.{still_looks}
use Rattle.kp_engine.proofs.PartsLemmas.{fresh_accounted}
use Rattle.kp_client.proofs.AccountLemmas.{all_accounted}
use Rattle.kp_client.proofs.left.Ended.unserved.Goals as goal

pub new-requires-3-clause-accounted : goal.new-requires-3-clause-accounted
new-requires-3-clause-accounted c = all_accounted _ (fresh_accounted c.args.core c.args.intake _ c.requires.fresh refl refl c.new.ensures.items c.new-2.ensures.items)

pub new-requires-3-clause-done : goal.new-requires-3-clause-done
new-requires-3-clause-done c is = absurd (c.requires.not_done is)

pub returns-clause-unserved : goal.returns-clause-unserved
returns-clause-unserved c = record {
  may_turn = c.requires.fresh;
  no_call = refl;
  same_core = ap (λ (p : Parts). p.core) c.new-3.ensures.0;
  no_item = ap (λ (p : Parts). p.held.items.items) c.new-3.ensures.0 ∙ c.new.ensures.items;
  no_report = ap (λ (p : Parts). p.held.reports.items) c.new-3.ensures.0 ∙ c.new-2.ensures.items;
  looks = still_looks _ _ (ap (λ (p : Parts). p.intake) c.new-3.ensures.0);
  not_done = λ is. c.requires.not_done (sym c.new-3.ensures.1 ∙ is);
}
