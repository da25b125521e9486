use Rattle.std.proofs.Common.{◌≡◌, ◌∙◌, sym, ap, subst, ◌+◌, ◌<◌, ◌≤◌, List, ◌∷◌, length, drop, arith, ℤ, to_z, of_z, w64}
use Rattle.std.proofs.lemmas.Int.{ints}
use Rattle.std.proofs.lemmas.List.{drop_more, drop_all}
use Rattle.kp_accum.specs.declared.item.Item.{Item}
use Rattle.kp_rules.specs.declared.outcome.Outcome.TheVariants.{Delivered}
use Rattle.kp_parts.specs.Desk.{told_lines, HavePlaces}
use Rattle.kp_rules.specs.Records.{Told}
use Rattle.kp_rules.specs.Telling.{told_offsets}
use Rattle.kp_parts.proofs.DeskLemmas.{offsets_from, told_lines-nil, told_step, places_step}
use Rattle.kp_parts.proofs.desk.put_offsets.Goals as goal

pub loop-item-preserved : goal.loop-item-preserved
loop-item-preserved c =
    let items = c.args.items.now in
    let i = c.loop-item.item-index in
    let item = c.item-item.result in
    let base = to_z w64 (of_z w64 c.args.base) in
    let offset = to_z w64 c.loop-item.offset-bits in
    let ls = c.loop-item.lines.items in
    let t : Told = record { item = item; outcome = Delivered offset } in
    let in_range : i < length items = omega arith in
    let first : drop i items ≡ item ∷ drop (i + 1) items =
    drop_more items i item in_range ∙ ap (λ (z : Item). z ∷ drop (i + 1) items) (sym c.item-item.is) in
    let rest = offsets_from (i + 1) base (drop (i + 1) items) in
    let same : offsets_from i base (drop i items) ≡ t ∷ rest =
    ap (offsets_from i base) first
    ∙ ap (λ (z : ℤ). let u : Told = record { item = item; outcome = Delivered z } in u ∷ rest) (sym c.loop-item.invariant.offset) in
    record {
      offset = omega (arith, ints);
      told = told_step t rest ls c.put_one.new.lines.items c.put_one.ensures
          ∙ ap (λ (z : List Told). told_lines z ls) (sym same) ∙ c.loop-item.invariant.told;
      places = places_step t rest ls c.put_one.new.lines.items c.put_one.ensures
          (subst (λ (z : List Told). HavePlaces ls z) same c.loop-item.invariant.places);
    }

pub returns : goal.returns
returns c =
    let items = c.args.items.now in
    let i = c.loop-item.item-index in
    let base = to_z w64 (of_z w64 c.args.base) in
    let ls = c.loop-item.lines.items in
    let past : length items ≤ i = omega arith in
    let is : base ≡ c.args.base = omega (arith, ints) in
    sym (ap (λ (z : List Item). told_lines (offsets_from i base z) ls) (drop_all i items past) ∙ told_lines-nil ls)
    ∙ c.loop-item.invariant.told ∙ ap (λ (z : ℤ). told_lines (told_offsets z items) c.args.lines.now.items) is
