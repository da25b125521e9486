-- What goes over an open connection to a node.
use Rattle.std.specs.Prelude.{◌≡◌, ◌⊎◌, ℕ, List, [], ◌++◌}
use Rattle.kp_connection.specs.Answers.{Answer, came, gone}
use Rattle.kp_connection.specs.Wire.{Told}
use Rattle.kp_drive.specs.declared.pipe.Pipe.{Pipe}
use Rattle.kp_embed.specs.Connecting.{Loses}
use Rattle.kp_embed.specs.Going.{Stays}
use Rattle.kp_embed.specs.Hearing.{GivesUp, Listens}
use Rattle.kp_embed.specs.Producer.{Producer}
use Rattle.kp_embed.specs.Taking.{CarriesNone, CarriesOut}

-- a connection that was just made
abbrev pub fresh_pipe : {S : Type 0} → S → Pipe S
fresh_pipe stream = record { stream = stream; unwritten = [] }

-- ---- with the producer

-- The producer was asked for what is to be written to the node, and fed what was read of it, in any order: these bytes were
-- taken, and these fed.
pub data Exchanges (node now : ℕ) (first : Producer) : (taken fed : List ℕ) → Producer → Type 0 where
  none : Exchanges node now first [] [] first
  took : (taken fed bytes : List ℕ) (p q : Producer) → Exchanges node now first taken fed p → CarriesOut node now p bytes q
      → Exchanges node now first (taken ++ bytes) fed q
  refused : (taken fed : List ℕ) (p q : Producer) → Exchanges node now first taken fed p → CarriesNone node now p q
      → Exchanges node now first taken fed q
  heard : (taken fed bytes : List ℕ) (p q : Producer) → Exchanges node now first taken fed p → Listens node now p bytes q
      → Exchanges node now first taken (fed ++ bytes) q

-- ---- with the stream too

-- The stream's calls answered so. What was written, and behind it what is unwritten, is what was unwritten before, and behind it
-- what was taken; what came was fed.
pub record Serves {S : Type 0} (answers : Told S) (node now : ℕ) (p : Producer) (a : Pipe S) (q : Producer) (b : Pipe S) : Type 0 where
  pub xs : List Answer
  pub told : answers a.stream xs b.stream
  pub taken : List ℕ
  pub exchanges : Exchanges node now p taken (came xs) q
  pub written : gone xs ++ b.unwritten ≡ a.unwritten ++ taken

-- The same up to where it is of no use: what was written is a beginning of that, and what was fed is a beginning of what came.
-- What came behind it the producer refused, if anything did.
pub record Stops {S : Type 0} (answers : Told S) (node now : ℕ) (p : Producer) (a : Pipe S) (q : Producer) : Type 0 where
  pub xs : List Answer
  pub last : S
  pub told : answers a.stream xs last
  pub taken : List ℕ
  pub fed : List ℕ
  pub middle : Producer
  pub exchanges : Exchanges node now p taken fed middle
  pub unwritten : List ℕ
  pub written : gone xs ++ unwritten ≡ a.unwritten ++ taken
  pub unfed : List ℕ
  pub read : came xs ≡ fed ++ unfed
  pub refused : Stays middle q ⊎ GivesUp node now middle q

-- The same, and then the producer is told that the connection is lost.
pub record Ends {S : Type 0} (answers : Told S) (node now : ℕ) (p : Producer) (a : Pipe S) (q : Producer) : Type 0 where
  pub after : Producer
  pub stops : Stops answers node now p a after
  pub lost : Loses node now after q
