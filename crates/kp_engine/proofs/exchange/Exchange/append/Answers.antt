use Rattle.std.proofs.Common.{◌≡◌, Some, None, refl, sym, ap, ◌∙◌, subst, rules}
use Rattle.std.specs.Prelude.{Ok, Err, slice_set}
use Rattle.kp_accum.specs.declared.item.Item.{Item}
use Rattle.kp_rules.specs.Appending.{may_append}
use Rattle.kp_rules.specs.Calls.{Append, Step}
use Rattle.kp_core.specs.Answers.{answer_of}
use Rattle.kp_engine.proofs.AgreementLemmas.{agree_on, none_some, same_may}
use Rattle.kp_engine.proofs.RunLemmas.{runs_none, runs_one, noted_append, refused_one}
use Rattle.kp_engine.proofs.StepLemmas.{each_call}
use Rattle.kp_engine.proofs.exchange.Exchange.append.Goals as goal

pub returns-in_default : goal.returns-in_default
returns-in_default c =
    let h = c.hold.ensures in record {
      last = None;
      its = λ x is. absurd (none_some is);
      runs = runs_none c.args.self.now c.hold.new.self h.core (h.kept ∙ c.reserve_append.ensures.same);
      only = record { intake = h.only.intake; items = h.only.items; reports = h.only.reports; closed = h.only.closed };
    }

pub invariant_of-self-in_default-append : goal.invariant_of-self-in_default-append
invariant_of-self-in_default-append c = record {
  agree = agree_on _ _ _ _ _ (Append c.args.item (answer_of c.append.result)) c.append.ensures.step c.args.self.now.agree;
  nothing_yet = c.args.self.now.nothing_yet;
  room = c.args.self.now.room;
}

pub returns-in_default-append : goal.returns-in_default-append
returns-in_default-append c = (
  runs_one _ _ (Append c.args.item (Ok tt)) c.see_record.ensures c.in_default-append.ensures.step
      (noted_append c.args.item None c.in-Ok.copy _ _ _ c.add_append.ensures c.in-Ok.ensures.copy c.reserve_append.ensures.same),
  record { intake = refl; items = refl; reports = refl; closed = refl },
)

pub invariant_of-self-2 : goal.invariant_of-self-2
invariant_of-self-2 c = record {
  agree = agree_on _ _ _ _ _ (Append c.args.item (answer_of c.append.result)) c.append.ensures.step c.args.self.now.agree;
  nothing_yet = c.args.self.now.nothing_yet;
  room = c.args.self.now.room;
}

pub hold-requires-2-clause-may : goal.hold-requires-2-clause-may
hold-requires-2-clause-may c =
    let back : c.in-Err.item ≡ c.args.item = search rules in
    ap (λ (x : Item). may_append x c.append.new.self) back
    ∙ same_may c.args.item _ _ (each_call _ _ (Append c.args.item (answer_of c.append.result)) c.append.ensures.step).shape ∙ c.requires.may

pub returns : goal.returns
returns c =
    let back : c.in-Err.item ≡ c.args.item = search rules in
    let h = c.hold-2.ensures in
    refused_one c.args.sender c.args.item c.in-Err.fault c.args.self.now c.hold-2.new.self c.see_record.ensures
    (subst (λ t. Step c.args.self.now.core (Append c.args.item (Err c.in-Err.fault)) t) (sym h.core) c.in-Err.ensures.step)
    (h.kept ∙ noted_append c.args.item (Some c.in-Err.fault) c.in-Ok.copy _ _ _ c.add_append-2.ensures c.in-Ok.ensures.copy c.reserve_append.ensures.same)
    (record { intake = h.only.intake; items = h.only.items ∙ ap (λ (x : Item). slice_set c.args.self.now.items.items c.args.sender (Some x)) back; reports = h.only.reports; closed = h.only.closed })
