-- What a call on a handle makes of the producer in it.
use Rattle.std.specs.Prelude.{◌≡◌, Option, Some, None}
use Rattle.kp_embed.specs.Producer.{Producer}

-- There is a producer, and it becomes another one.
abbrev pub Makes : (Producer → Producer → Type 0) → Option Producer → Option Producer → Type 0
Makes Becomes None new = ⊥
Makes Becomes (Some old) None = ⊥
Makes Becomes (Some old) (Some new) = Becomes old new

-- Where there is a producer, it becomes another one; where there is none, there is none then.
abbrev pub OnHeld : (Producer → Producer → Type 0) → Option Producer → Option Producer → Type 0
OnHeld Becomes None new = new ≡ None
OnHeld Becomes (Some old) None = ⊥
OnHeld Becomes (Some old) (Some new) = Becomes old new

-- There is a producer, of which this is so.
abbrev pub OfHeld : (Producer → Type 0) → Option Producer → Type 0
OfHeld Is None = ⊥
OfHeld Is (Some p) = Is p

-- There was none, and there is none.
pub record IsEmpty (old new : Option Producer) : Type 0 where
  pub before : old ≡ None
  pub after : new ≡ None
