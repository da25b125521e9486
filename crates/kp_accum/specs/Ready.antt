-- When the front batch of a queue is ready to be sent, and when its time is over.
use Rattle.std.specs.Prelude.{ℕ, ◌+◌, Bool, false, List, [], ◌∷◌, length, Option, Some, None, ◌||◌, nat_le, nat_lt, if◌then◌else◌}
use Rattle.kp_accum.specs.declared.config.Config.{Config}
use Rattle.kp_accum.specs.declared.flags.Flags.{Flags}
use Rattle.kp_accum.specs.Queue.{Pending, size_of}

-- So long has passed since then. The sum does not wrap.
unfoldable pub is_over : ℕ → ℕ → ℕ → Bool
is_over since wait now = nat_le (since + wait) now

abbrev pub is_full : Config → Pending → Bool
is_full c b = nat_le c.batch_size (size_of b.items)

-- the sender wants its batches out as they are
unfoldable pub is_pressed : Flags → Bool
is_pressed f = f.exhausted || f.closing || f.flushing

-- the front batch is ready: full, or another batch behind it, or it has lingered, or the sender wants it out
unfoldable pub is_ready : Config → Flags → ℕ → List Pending → Bool
is_ready c f now [] = false
is_ready c f now (b ∷ rest) = is_full c b || nat_lt 0 (length rest) || is_over b.begun c.linger_ms now || is_pressed f

-- ---- expiry

unfoldable pub is_late : Config → ℕ → Pending → Bool
is_late c now b = is_over b.begun c.delivery_timeout_ms now

-- the front batch, where its delivery timeout is over
unfoldable pub expired : Config → ℕ → List Pending → Option Pending
expired c now [] = None
expired c now (b ∷ rest) = if is_late c now b then Some b else None

-- the queue without it
unfoldable pub unexpired : Config → ℕ → List Pending → List Pending
unexpired c now [] = []
unexpired c now (b ∷ rest) = if is_late c now b then rest else b ∷ rest
