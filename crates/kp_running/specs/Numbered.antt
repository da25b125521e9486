-- Bells that tell whose they are.
use Rattle.std.specs.Prelude.{◌≡◌, ℕ, List, Some, slice_get}
use Rattle.kp_running.specs.declared.bell.SenderBell.{SenderBell}

-- each bell has the number of its place
pub record AreNumbered (bells : List SenderBell) : Type 0 where
  pub its : (i : ℕ) (bell : SenderBell) → slice_get bells i ≡ Some bell → bell.number ≡ i
