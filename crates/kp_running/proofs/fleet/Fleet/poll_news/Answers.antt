use Rattle.std.proofs.Common.{sym, refl, subst, ◌∙◌}
use Rattle.kp_running.specs.Fleet.{TakesNews}
use Rattle.kp_running.specs.Over.{IfGaveUp, IsSpent}
use Rattle.kp_running.proofs.FleetLemmas.{gave_up_for}
use Rattle.kp_running.proofs.fleet.Fleet.poll_news.Goals as goal

pub drop_lost-requires : goal.drop_lost-requires
drop_lost-requires g c = sym c.lost.ensures ∙ c.in-Some.is

pub returns-in-Some-clause-news : goal.returns-in-Some-clause-news
returns-in-Some-clause-news g c = TakesNews.lost c.drop_lost.new.self c.in-Some.node c.drop_lost.ensures.loses

pub returns-in-Pending-clause-news : goal.returns-in-Pending-clause-news
returns-in-Pending-clause-news g c = TakesNews.nothing _ (sym c.lost.ensures ∙ c.in_default.is) refl refl

pub returns-in-Ok-clause-news : goal.returns-in-Ok-clause-news
returns-in-Ok-clause-news g c = TakesNews.heeds c.heed.new.self c.in-Ready.news (sym c.lost.ensures ∙ c.in_default.is) c.in-Ok.ensures.heeds c.in-Ok.ensures.keeping.1

pub returns-in-Err-clause-news : goal.returns-in-Err-clause-news
returns-in-Err-clause-news g c = TakesNews.ends c.heed.new.self c.in-Ready.news c.in-Err.over (sym c.lost.ensures ∙ c.in_default.is) c.in-Err.ensures.heeds c.in-Err.ensures.keeping.1

pub returns-in-Err-clause-spent : goal.returns-in-Err-clause-spent
returns-in-Err-clause-spent g c =
    subst (λ (k : _). IfGaveUp c.in-Err.over (IsSpent (g.K.Keeping.limit k) (g.K.Keeping.made k))) (sym c.in-Err.ensures.keeping.0)
    (gave_up_for _ c.in-Ready.news c.in-Err.over c.in-Ready.ensures.spent c.in-Err.ensures.gave_up)
