use Rattle.std.proofs.Common.{◌≡◌, ℕ, ◌<◌, [], ◌∷◌, length, refl, ap, ◌∙◌, arith}
use Rattle.std.specs.Prelude.{Some}
use Rattle.kp_rules.specs.Calls.{Fetch}
use Rattle.kp_engine.specs.Turned.{noted, notes_of}
use Rattle.kp_engine.proofs.AgreementLemmas.{agree_on}
use Rattle.kp_engine.proofs.MailLemmas.{its_own, none_fetched, others_wait, some_fetched}
use Rattle.kp_engine.proofs.RunLemmas.{runs_none, runs_one, noted_behind}
use Rattle.kp_engine.proofs.exchange.Exchange.fetch.Goals as goal

pub returns-in_default-clause-err : goal.returns-in_default-clause-err
returns-in_default-clause-err c = runs_none _ _ refl c.reserve.ensures.same

pub invariant_of-self-in-None : goal.invariant_of-self-in-None
invariant_of-self-in-None c = record {
  agree = agree_on _ _ _ _ _ (Fetch c.args.sender c.next_report.result) c.next_report.ensures c.args.self.now.agree;
  nothing_yet = c.args.self.now.nothing_yet;
  room = c.args.self.now.room;
}

pub invariant_of-self-in-Some : goal.invariant_of-self-in-Some
invariant_of-self-in-Some c = record {
  agree = agree_on _ _ _ _ _ (Fetch c.args.sender c.next_report.result) c.next_report.ensures c.args.self.now.agree;
  nothing_yet = c.args.self.now.nothing_yet;
  room = c.args.self.now.room;
}

pub returns-in-None-clause-ok : goal.returns-in-None-clause-ok
returns-in-None-clause-ok c =
    let none = none_fetched c.args.self.now.core c.next_report.new.self c.args.sender c.in-None.ensures in
    (runs_none c.args.self.now _ none.0 c.reserve.ensures.same, none.1)

pub returns-in-Some-clause-ok : goal.returns-in-Some-clause-ok
returns-in-Some-clause-ok c =
    let near : c.args.sender < length c.args.self.now.core.reports = omega (arith, c.requires, c.args.self.now.agree.senders) in
    let waited = some_fetched c.args.self.now.core c.next_report.new.self c.args.sender c.in-Some.report near c.in-Some.ensures in
    let its : c.in-Some.report.sender ≡ c.args.sender = its_own c.args.sender c.in-Some.report _ _ waited (c.args.self.now.agree.its_waiting c.args.sender) in (
      runs_one c.args.self.now _ (Fetch c.args.sender (Some c.in-Some.report)) tt c.in-Some.ensures
          (noted_behind (Fetch c.args.sender (Some c.in-Some.report) ∷ []) _ _ _ (c.add.ensures ∙ ap (λ (n : ℕ). noted (Fetch n (Some c.in-Some.report) ∷ []) (notes_of c.reserve.new.self)) its) c.reserve.ensures.same),
      its,
      waited,
    )

pub returns-in-None-clause-others : goal.returns-in-None-clause-others
returns-in-None-clause-others c = others_wait c.args.self.now.core c.next_report.new.self c.args.sender c.next_report.result c.next_report.ensures

pub returns-in-Some-clause-others : goal.returns-in-Some-clause-others
returns-in-Some-clause-others c = others_wait c.args.self.now.core c.next_report.new.self c.args.sender c.next_report.result c.next_report.ensures
