use Rattle.std.proofs.Common.{◌≡◌, ◌∙◌, sym, ap, subst, ◌+◌, ◌<◌, ◌≤◌, List, ◌∷◌, length, drop, arith}
use Rattle.std.proofs.lemmas.List.{drop_more, drop_all}
use Rattle.kp_accum.specs.declared.item.Item.{Item}
use Rattle.kp_parts.specs.Desk.{told_lines, HavePlaces}
use Rattle.kp_rules.specs.Records.{Told}
use Rattle.kp_rules.specs.Telling.{told_all}
use Rattle.kp_parts.proofs.DeskLemmas.{told_lines-nil, told_step, places_step}
use Rattle.kp_parts.proofs.desk.put_all.Goals as goal

pub loop-item-preserved : goal.loop-item-preserved
loop-item-preserved c =
    let items = c.args.items.now in
    let i = c.loop-item.item-index in
    let item = c.item-item.result in
    let outcome = c.args.outcome in
    let ls = c.loop-item.lines.items in
    let t : Told = record { item = item; outcome = outcome } in
    let in_range : i < length items = omega arith in
    let first : drop i items ≡ item ∷ drop (i + 1) items =
    drop_more items i item in_range ∙ ap (λ (z : Item). z ∷ drop (i + 1) items) (sym c.item-item.is) in
    let rest = told_all outcome (drop (i + 1) items) in
    record {
      told = told_step t rest ls c.put_one.new.lines.items c.put_one.ensures
          ∙ ap (λ (z : List Item). told_lines (told_all outcome z) ls) (sym first) ∙ c.loop-item.invariant.told;
      places = places_step t rest ls c.put_one.new.lines.items c.put_one.ensures
          (subst (λ (z : List Item). HavePlaces ls (told_all outcome z)) first c.loop-item.invariant.places);
    }

pub returns : goal.returns
returns c =
    let items = c.args.items.now in
    let i = c.loop-item.item-index in
    let ls = c.loop-item.lines.items in
    let past : length items ≤ i = omega arith in
    sym (ap (λ (z : List Item). told_lines (told_all c.args.outcome z) ls) (drop_all i items past) ∙ told_lines-nil ls)
    ∙ c.loop-item.invariant.told
