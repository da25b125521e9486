use Rattle.kp_network.specs.News.{Renews}
use Rattle.std.proofs.Common.{refl}
use Rattle.kp_network.proofs.network.Network.renew_question.Goals as goal

pub returns-in_default-clause-renews : goal.returns-in_default-clause-renews
returns-in_default-clause-renews g c = Renews.stays (c.to_be_asked.ensures.none c.in_default.is) refl

pub returns-clause-renews : goal.returns-clause-renews
returns-clause-renews g c = Renews.another c.in-Some.node c.ask.result c.in-Some.ensures.may c.ask.ensures.asks
