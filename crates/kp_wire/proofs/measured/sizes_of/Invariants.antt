use Rattle.std.proofs.Common.{◌≡◌, length, take}
use Rattle.std.specs.List.{flat_map, AllByRecursion}
use Rattle.kp_wire.specs.Sizes.{capped}
use Rattle.kp_wire.proofs.measured.sizes_of.Given as goal

abbrev pub invariant-loop-item : goal.invariant-loop-item
invariant-loop-item g l = record {
  fits : AllByRecursion g.T.MeasuredField.fits (take l.item-index l.items);
  size : l.size ≡ capped (length (flat_map g.T.MeasuredField.spells (take l.item-index l.items)));
}
