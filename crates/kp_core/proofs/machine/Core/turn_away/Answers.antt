use Rattle.std.proofs.Common.{◌≡◌, ◌∙◌, [], ◌∷◌, refl, sym, ap, subst, rules}
use Rattle.kp_core.specs.Keeping.{IsKept, seen_of}
use Rattle.kp_rules.specs.declared.outcome.Outcome.TheVariants.{Unsent}
use Rattle.kp_rules.specs.Appending.{turn_away}
use Rattle.kp_rules.specs.Records.{Core}
use Rattle.kp_rules.specs.Telling.{told_all}
use Rattle.kp_parts.specs.Desk.{Desk, tell_free, with_place}
use Rattle.kp_core.proofs.AppendLemmas.{answers_turned, line_there, place_kept, turned-is}
use Rattle.kp_core.proofs.KeepingLemmas.{turned_kept}
use Rattle.kp_core.proofs.machine.Core.turn_away.Goals as goal

pub reserve-requires : goal.reserve-requires
reserve-requires c = line_there c.args.item (seen_of c.self.inside) c.self.inside.desk refl (rw (c.self.view_is) c.requires.may)

pub turn_away-requires : goal.turn_away-requires
turn_away-requires c =
    let kept : c.reserve.new.self ≡ with_place c.args.item.sender c.self.inside.desk = search rules in
    let there = line_there c.args.item (seen_of c.self.inside) c.self.inside.desk refl (rw (c.self.view_is) c.requires.may) in
    rw kept (place_kept c.args.item.sender c.self.inside.desk there)

pub invariant_of-self-2 : goal.invariant_of-self-2
invariant_of-self-2 c =
    let kept : c.reserve.new.self ≡ with_place c.args.item.sender c.self.inside.desk = search rules in
    let there = line_there c.args.item (seen_of c.self.inside) c.self.inside.desk refl (rw (c.self.view_is) c.requires.may) in
    let told : c.turn_away.new.self ≡ tell_free (told_all (Unsent c.args.why) (c.args.item ∷ [])) (with_place c.args.item.sender c.self.inside.desk) =
    c.turn_away.ensures ∙ ap (tell_free (told_all (Unsent c.args.why) (c.args.item ∷ []))) kept in
    let is = turned-is c.args.why c.args.item (seen_of c.self.inside) c.self.inside.desk c.turn_away.new.self refl told in
    subst (λ (x : Core). IsKept x c.turn_away.new.self) (sym is)
    (subst (λ (d : Desk). IsKept (turn_away c.args.why c.args.item (seen_of c.self.inside)).after d) (sym told)
    (turned_kept c.args.why c.args.item there c.self.invariant))

pub returns-clause-step : goal.returns-clause-step
returns-clause-step c =
    let kept : c.reserve.new.self ≡ with_place c.args.item.sender c.self.inside.desk = search rules in
    let told : c.turn_away.new.self ≡ tell_free (told_all (Unsent c.args.why) (c.args.item ∷ [])) (with_place c.args.item.sender c.self.inside.desk) =
    c.turn_away.ensures ∙ ap (tell_free (told_all (Unsent c.args.why) (c.args.item ∷ []))) kept in
    answers_turned c.args.why c.args.item c.args.self.now _ c.requires.turned
    (turned-is c.args.why c.args.item (seen_of c.self.inside) c.self.inside.desk c.turn_away.new.self refl told
    ∙ ap (λ (x : Core). (turn_away c.args.why c.args.item x).after) c.self.view_is)
