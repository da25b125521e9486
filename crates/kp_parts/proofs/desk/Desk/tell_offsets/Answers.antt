use Rattle.std.proofs.Common.{◌≡◌, ◌∙◌, ◌-◌, ℕ, length, sym, ap, ℤ, to_z, of_z, w64, arith}
use Rattle.std.proofs.lemmas.Int.{ints}
use Rattle.kp_parts.specs.Desk.{Desk, told_lines, charges_of}
use Rattle.kp_rules.specs.Telling.{told_offsets}
use Rattle.kp_parts.proofs.DeskLemmas.{charges-offsets, length-offsets, desk_told}
use Rattle.kp_parts.proofs.desk.Desk.tell_offsets.Goals as goal

pub overflow_sub-self : goal.overflow_sub-self
overflow_sub-self c =
    let untold = ap (λ (d : Desk). d.untold) c.self.view_is in
    omega (arith, untold, c.requires.covered.count, length-offsets c.args.base c.args.items.now)

pub release-requires : goal.release-requires
release-requires c =
    let used = ap (λ (d : Desk). d.used) c.self.view_is in
    omega (arith, used, c.requires.covered.charges, c.requires.charge_is, charges-offsets c.args.base c.args.items.now)

pub returns : goal.returns
returns c =
    let items = c.args.items.now in
    let is : to_z w64 (of_z w64 c.args.base) ≡ c.args.base = omega (arith, ints) in
    let lines = c.put_offsets.ensures ∙ ap (λ (z : ℤ). told_lines (told_offsets z items) c.self.inside.lines.items) is in
    let charge : c.args.charge ≡ charges_of (told_offsets c.args.base items) = c.requires.charge_is ∙ sym (charges-offsets c.args.base items) in
    desk_told (told_offsets c.args.base items) c.args.self.now c.self.inside.lines.items c.put_offsets.new.lines.items c.self.inside.untold (c.self.inside.untold - length items) c.self.inside.budget c.release.new.self c.args.charge c.self.view_is lines
    (ap (λ (n : ℕ). c.self.inside.untold - n) (sym (length-offsets c.args.base items))) charge c.release.ensures
