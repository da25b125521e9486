-- A connection since it was made.
use Rattle.std.specs.Prelude.{◌≡◌, ◌⊎◌, ℕ, List, [], ◌++◌, None}
use Rattle.kp_connection.specs.Answers.{Answer, gone}
use Rattle.kp_connection.specs.Wire.{Told}
use Rattle.kp_drive.specs.Serving.{Serves}
use Rattle.kp_drive.specs.declared.pipe.Pipe.{Pipe}
use Rattle.kp_embed.specs.Connecting.{Connects}
use Rattle.kp_embed.specs.Going.{Acts}
use Rattle.kp_embed.specs.Lines.{line_at}
use Rattle.kp_embed.specs.Producer.{Producer}
use Rattle.kp_rules.specs.Calls.{Call}

-- Its line in the producer is as it was, or is not there any more.
abbrev pub MayEndAt : ℕ → (old new : Producer) → Type 0
MayEndAt node old new = (line_at node new.lines ≡ line_at node old.lines) ⊎ (line_at node new.lines ≡ None)

-- From its making on: its stream's calls answered so, and these bytes were taken for it; and meanwhile calls on the producer that
-- asked for no bytes of it and fed it none.
pub data Since {S : Type 0} (answers : Told S) (node : ℕ) (first : S) : List Answer → (taken : List ℕ) → Producer → Pipe S → Type 0 where
  connected : (now : ℕ) (p q : Producer) (b : Pipe S) → b.stream ≡ first → b.unwritten ≡ [] → Connects node now p q → Since answers node first [] [] q b
  served : (now : ℕ) (p q : Producer) (a b : Pipe S) (xs : List Answer) (taken : List ℕ) → Since answers node first xs taken p a
      → (s : Serves answers node now p a q b) → Since answers node first (xs ++ s.xs) (taken ++ s.taken) q b
  meanwhile : (p q : Producer) (b : Pipe S) (xs : List Answer) (taken : List ℕ) (calls : List Call) → Since answers node first xs taken p b → Acts p calls q
      → MayEndAt node p q → Since answers node first xs taken q b

-- What was written, and behind it what is unwritten, is all that was taken for it, in order.
pub record Carries {S : Type 0} (answers : Told S) (first : S) (xs : List Answer) (taken : List ℕ) (b : Pipe S) : Type 0 where
  pub told : answers first xs b.stream
  pub written : gone xs ++ b.unwritten ≡ taken

-- It has done so since it was made, over the stream that it was made of.
pub record HasCarried {S : Type 0} (answers : Told S) (node : ℕ) (p : Producer) (b : Pipe S) : Type 0 where
  pub first : S
  pub xs : List Answer
  pub taken : List ℕ
  pub since : Since answers node first xs taken p b
  pub carries : Carries answers first xs taken b
