-- A whole turn.
use Rattle.std.specs.Prelude.{ℕ, List, length}
use Rattle.kp_connection.specs.Wire.{Told}
use Rattle.kp_drive.specs.Doing.{DoesAll}
use Rattle.kp_drive.specs.Links.{EachTurns}
use Rattle.kp_drive.specs.declared.link.Link.{Link}
use Rattle.kp_embed.specs.Producer.{Producer}
use Rattle.kp_embed.specs.Ticking.{Ticks}

-- At one moment: the clock is looked at, what the producer tells is done, and each link has its turn.
pub record Turns {K S : Type 0} (answers : Told S) (now : ℕ) (p : Producer) (links : List (Link K S)) (q : Producer) (new : List (Link K S)) : Type 0 where
  pub ticked : Producer
  pub ticks : Ticks now p ticked
  pub asked : Producer
  pub linked : List (Link K S)
  pub does : DoesAll now ticked links asked linked
  pub each : EachTurns answers now asked linked (length linked) q new
