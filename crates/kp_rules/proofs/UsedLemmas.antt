-- Memory is used exactly while an item is not told.
use Rattle.std.proofs.Common.{◌≡◌, List, [], ◌∷◌, refl, ap, arith}
use Rattle.std.specs.Prelude.{◌↔◌, sum_by}
use Rattle.std.proofs.lemmas.List.Sums.{sum_by-cons}
use Rattle.kp_accum.specs.declared.item.Item.{Item}
use Rattle.kp_accum.specs.Queue.{charge_of}
use Rattle.kp_accum.proofs.QueueLemmas.{length-small}
use Rattle.kp_rules.specs.Partitions.{all_untold, used}
use Rattle.kp_rules.specs.Records.{Core}

charged : (items : List Item) → sum_by charge_of items ≡ 0 → items ≡ []
charged [] e = refl
charged (i ∷ items) e = absurd (omega (arith, e, sum_by-cons charge_of i items, length-small (i ∷ [])))

pub used_by_untold : (s : Core) → (used s ≡ 0) ↔ (all_untold s ≡ [])
unfolding used
used_by_untold s = (charged (all_untold s), λ e. ap (sum_by charge_of) e)
