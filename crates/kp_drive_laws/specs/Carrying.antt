-- What goes over an open connection of a driven producer.
use Rattle.std.specs.Prelude.{◌≡◌, ◌⊎◌, ℕ, List, ◌++◌, None}
use Rattle.kp_connection.specs.Answers.{Answer, came, gone}
use Rattle.kp_connection.specs.Wire.{Told}
use Rattle.kp_drive.specs.declared.pipe.Pipe.{Pipe}
use Rattle.kp_embed.specs.Lines.{line_at}
use Rattle.kp_embed.specs.Producer.{Producer}
use Rattle.kp_embed_laws.specs.Connection.{Carries}
use Rattle.kp_rules.specs.Calls.{Call}

-- Since it was made, its stream's calls answered so. What was written, and behind it what is unwritten, was taken for it; what came
-- was fed to it; and between these and the calls on the core the connection carries frames.
pub record CarriesFrames {S : Type 0} (answers : Told S) (node : ℕ) (p : Producer) (b : Pipe S) : Type 0 where
  pub first : S
  pub xs : List Answer
  pub told : answers first xs b.stream
  pub heard : List (List ℕ)
  pub mine : List Call
  pub carries : Carries node (gone xs ++ b.unwritten) (came xs) heard mine p

-- The producer has given it up, and it is to be closed.
abbrev pub IsGivenUp : ℕ → Producer → Type 0
IsGivenUp node p = line_at node p.lines ≡ None

-- It carries frames, unless it was given up.
abbrev pub CarriesOn : {S : Type 0} → Told S → ℕ → Producer → Pipe S → Type 0
CarriesOn answers node p b = IsGivenUp node p ⊎ CarriesFrames answers node p b
