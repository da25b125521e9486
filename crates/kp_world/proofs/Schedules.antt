-- Schedules and what they bring about, as text.
use Rattle.std.proofs.Common.{ℕ, List}
use Rattle.std.specs.Prelude.{Result, Ok, Err, codes}
use Rattle.kp_accum.specs.declared.config.Config.{Config}
use Rattle.kp_world.specs.declared.event.Event.{Event}
use Rattle.kp_world.specs.Replay.{replayed}
use Rattle.kp_world.specs.Text.{Text, text}
use Rattle.kp_world.specs.World.{World, opening, scheduled}

abbrev pub text_of : Result World ℕ → Text
text_of (Ok w) = text w
text_of (Err n) = codes "no such thing"

-- the lines that a schedule brings about
abbrev pub told : Config → (partitions senders : ℕ) → List Event → Text
told c partitions senders es = text_of (replayed es (opening (scheduled c partitions senders)))
