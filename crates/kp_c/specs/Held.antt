-- What a handle owns.
use Rattle.std.specs.Prelude.{Option, Some, None}
use base.Fml.{Fml, ftrue}
use denote.RattleType.{RattleType}
use denote.RawPtr.{Ptr}
use Rattle.std.specs.Global.{Global}
use Rattle.std.specs.contracts.impls.GlobalAllocator.TheImpl.{ghosts}
use Rattle.std.specs.Box.Ownership.{box_owns}

module _ (R : RattleType) where
  -- nothing, or the box that the pointer is of
  abbrev pub held : Global → Ptr → Option R.Denot → Fml
  held alloc at None = ftrue
  held alloc at (Some value) = box_owns (ghosts.dealloc_token alloc) R at value
