-- A handle that holds a producer owns what a box of the producer owns.
use mir.Syntax.{impl, tnil, dnil}
use Rattle.std.specs.Prelude.{◌≡◌, Option, Some, None, IsSome, refl}
use mathlib.Core.Path.{sym, subst}
use lib.Dec.{T}
use mathlib.Core.List.{[]}
use denote.Signature.{Slot, plain}
use Rattle.std.proofs.BoxSteps.Form.{Bx}
use Rattle.std.specs.contracts.alloc.Global as Heap
use Rattle.std.specs.contracts.impls.GlobalAllocator.TheImpl.{ghosts, dict}
use Rattle.std.proofs.alloc.Global.TheLaws as heap
use Rattle.kp_embed.specs.contracts.embed.Embed as Inner
use Rattle.kp_embed.proofs.embed.Embed.TheLaws as inner
use Rattle.kp_c.specs.contracts.parts.Parts as Parts
use Rattle.kp_c.specs.contracts.handle.Sealed as Sealed

-- the box of a producer, on the heap
abbrev pub E : Bx
E = record { row = Inner.the_row; laws = inner.the_row_laws; al = record { row = Heap.the_row; laws = heap.the_row_laws; g = ghosts; d = dict; drops = impl [] tnil dnil } }

-- its parts, and the seal, as parameters of a function
abbrev pub parts_in : Slot 0
parts_in = plain (λ _. Parts.the_row Inner.the_row Heap.the_row ghosts)

abbrev pub seal_in : Slot 0
seal_in = plain (λ _. Sealed.the_row)

pub some_of : {A : Type 0} → (x : Option A) → IsSome x → (a : A) × (x ≡ Some a)
some_of None is = absurd (subst T (sym is) tt)
some_of (Some a) is = (a, refl)
