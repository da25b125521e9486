use Rattle.std.proofs.Common.{sym, ◌∙◌, arith}
use Rattle.kp_engine.proofs.SideLemmas.{same_mail}
use Rattle.kp_engine.proofs.SendLemmas.{from_no_report, from_report, held_once_more, reports_mail, reports_then}
use Rattle.kp_engine.proofs.exchange.Exchange.send_from.Goals as goal

pub send_fetched-requires-clause-place : goal.send_fetched-requires-clause-place
send_fetched-requires-clause-place c = omega (arith, c.requires, c.take_held_report.ensures.only.lanes.senders)

pub send_fetched-requires-clause-free : goal.send_fetched-requires-clause-free
send_fetched-requires-clause-free c = c.take_held_report.ensures.none

pub returns-in-None-clause-sends : goal.returns-in-None-clause-sends
returns-in-None-clause-sends c =
    let h = c.take_held_report.ensures in
    from_no_report c.args.sender c.args.self.now c.take_held_report.new.self c.send_fetched.new.self c.send_fetched.result
    (same_mail c.args.self.now c.take_held_report.new.self c.args.sender h.told (h.none ∙ sym c.in-None.is ∙ h.held)) h.only c.send_fetched.ensures.sends

pub returns-in-None-clause-only : goal.returns-in-None-clause-only
returns-in-None-clause-only c =
    reports_then c.args.sender c.args.self.now c.take_held_report.new.self c.send_fetched.new.self
    (reports_mail c.args.sender c.args.self.now c.take_held_report.new.self c.take_held_report.ensures.only) c.send_fetched.ensures.only

pub hand-requires-clause-its : goal.hand-requires-clause-its
hand-requires-clause-its c = c.in-Some.ensures.its

pub hand-requires-clause-place : goal.hand-requires-clause-place
hand-requires-clause-place c = omega (arith, c.requires, c.take_held_report.ensures.only.lanes.senders)

pub returns-then-not-hand-clause-sends : goal.returns-then-not-hand-clause-sends
returns-then-not-hand-clause-sends c =
    let h = c.take_held_report.ensures in
    held_once_more c.args.sender c.in-Some.report c.args.self.now c.take_held_report.new.self c.hand.new.self (sym h.held ∙ c.in-Some.is) h.told h.none h.only c.hand.ensures.only c.if-not-hand.ensures.hands

pub returns-then-not-hand-clause-only : goal.returns-then-not-hand-clause-only
returns-then-not-hand-clause-only c =
    reports_then c.args.sender c.args.self.now c.take_held_report.new.self c.hand.new.self
    (reports_mail c.args.sender c.args.self.now c.take_held_report.new.self c.take_held_report.ensures.only) (reports_mail c.args.sender c.take_held_report.new.self c.hand.new.self c.hand.ensures.only)

pub send_fetched-requires-in-Some-clause-place : goal.send_fetched-requires-in-Some-clause-place
send_fetched-requires-in-Some-clause-place c = omega (arith, c.requires, c.take_held_report.ensures.only.lanes.senders, c.hand.ensures.only.lanes.senders)

pub send_fetched-requires-in-Some-clause-free : goal.send_fetched-requires-in-Some-clause-free
send_fetched-requires-in-Some-clause-free c = c.if-not-hand.ensures.hands.1 ∙ c.take_held_report.ensures.none

pub returns-else-not-hand-clause-sends : goal.returns-else-not-hand-clause-sends
returns-else-not-hand-clause-sends c =
    let h = c.take_held_report.ensures in
    from_report c.args.sender c.in-Some.report c.args.self.now c.take_held_report.new.self c.hand.new.self (sym h.held ∙ c.in-Some.is) h.told h.none h.only c.hand.ensures.only
    c.send_fetched-in-Some.new.self c.send_fetched-in-Some.result c.if-not-hand.ensures.hands c.send_fetched-in-Some.ensures.sends

pub returns-else-not-hand-clause-only : goal.returns-else-not-hand-clause-only
returns-else-not-hand-clause-only c =
    reports_then c.args.sender c.args.self.now c.hand.new.self c.send_fetched-in-Some.new.self
    (reports_then c.args.sender c.args.self.now c.take_held_report.new.self c.hand.new.self
    (reports_mail c.args.sender c.args.self.now c.take_held_report.new.self c.take_held_report.ensures.only) (reports_mail c.args.sender c.take_held_report.new.self c.hand.new.self c.hand.ensures.only))
    c.send_fetched-in-Some.ensures.only
