-- Bytes that are taken of a producer's connection.
use Rattle.std.specs.Prelude.{◌≡◌, ◌⊎◌, ℕ, List, [], ◌++◌, Some}
use Rattle.kp_embed.specs.Asking.{Asks, HasNone}
use Rattle.kp_embed.specs.Going.{Acts}
use Rattle.kp_embed.specs.Lines.{AtNode, SameLines, line_at}
use Rattle.kp_embed.specs.Producer.{Producer}
use Rattle.kp_embed.specs.declared.line.Line.{Line}
use Rattle.kp_rules.specs.Calls.{Call}

-- Bytes wait to be taken: those that did, or, where none did, those of what is asked next.
pub record AsksNext (node now : ℕ) (old : Producer) (line : Line) (new : Producer) (after : Line) : Type 0 where
  pub calls : List Call
  pub acts : Acts old calls new
  pub held : after.held ≡ line.held
  pub asks : ((calls ≡ []) × (after.question ≡ line.question) × (after.out ≡ line.out))
      ⊎ ((line.out ≡ []) × Asks old.names node now line.question after.out calls after.question)

-- Nothing is asked.
pub record AsksNone (node now : ℕ) (old new : Producer) : Type 0 where
  pub calls : List Call
  pub acts : Acts old calls new
  pub none : HasNone node now calls

-- Nothing was taken, and what waits to be taken is as it was.
pub record CarriesNone (node now : ℕ) (old new : Producer) : Type 0 where
  pub asks : AsksNone node now old new
  pub lines : SameLines old.lines new.lines

-- These bytes were taken of the node's connection: the first that wait once what is asked next waits too.
pub record CarriesOut (node now : ℕ) (old : Producer) (taken : List ℕ) (new : Producer) : Type 0 where
  pub line : Line
  pub asked : Line
  pub after : Line
  pub is : line_at node old.lines ≡ Some line
  pub asks : AsksNext node now old line new asked
  pub bytes : asked.out ≡ taken ++ after.out
  pub rest : (after.question ≡ asked.question) × (after.held ≡ asked.held)
  pub lines : AtNode node (Some after) old.lines new.lines
