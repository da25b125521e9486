-- Any use of a driven producer.
use Rattle.std.specs.Prelude.{ℕ, List, []}
use Rattle.kp_connection.specs.Wire.{Told}
use Rattle.kp_drive.specs.Turning.{Turns}
use Rattle.kp_drive.specs.declared.link.Link.{Link}
use Rattle.kp_embed.specs.Going.{Acts}
use Rattle.kp_embed.specs.Lines.{SameLines}
use Rattle.kp_embed.specs.Producer.{Producer}
use Rattle.kp_rules.specs.Calls.{Call}

-- From its making on, one after the other: turns, and calls on the producer that leave its lines.
pub data Uses {K S : Type 0} (answers : Told S) (first : Producer) : Producer → List (Link K S) → Type 0 where
  made : Uses answers first first []
  turned : (now : ℕ) (p q : Producer) (ls ms : List (Link K S)) → Uses answers first p ls → Turns answers now p ls q ms → Uses answers first q ms
  called : (p q : Producer) (ls : List (Link K S)) (calls : List Call) → Uses answers first p ls → Acts p calls q → SameLines p.lines q.lines → Uses answers first q ls
