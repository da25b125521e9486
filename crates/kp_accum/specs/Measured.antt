-- What is true of a batch that waits, beside what is seen of it.
use Rattle.std.specs.Prelude.{◌≡◌, ℕ, ◌*◌, ◌<◌, ◌≤◌, List, length, sum_by}
use Rattle.kp_batch.specs.declared.size.TheConstants.{SIZE_LIMIT}
use Rattle.kp_accum.specs.declared.item.Item.{Item}
use Rattle.kp_accum.specs.Queue.{size_of, charge_of}

-- There are items, the size is that of their batch, which a batch may have, and the charge is the sum of theirs, none of
-- which is above the limit.
pub record IsMeasured (size charge : ℕ) (items : List Item) : Type 0 where
  pub some : 0 < length items
  pub size_is : size ≡ size_of items
  pub fits : size ≤ SIZE_LIMIT
  pub charge_is : charge ≡ sum_by charge_of items
  pub charge_fits : charge ≤ SIZE_LIMIT * length items
