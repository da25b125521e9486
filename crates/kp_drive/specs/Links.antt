-- The connections to nodes, and what a turn makes of each.
use Rattle.std.specs.Prelude.{◌≡◌, ◌≢◌, ℕ, ◌+◌, List, [], slice_index_or}
use Rattle.kp_connection.specs.Wire.{Told}
use Rattle.kp_drive.specs.Serving.{Ends, Serves}
use Rattle.kp_drive.specs.declared.link.Link.{Link}
use Rattle.kp_drive.specs.declared.link.Link.TheVariants.{Closed, Dialing, Open}
use Rattle.kp_embed.specs.Connecting.{Connects, Loses}
use Rattle.kp_embed.specs.Going.{Stays}
use Rattle.kp_embed.specs.Producer.{Producer}

-- ---- one link

-- No connection was made, or there was no room for it; the producer is told that it is lost.
pub record Abandons (node now : ℕ) (p q : Producer) : Type 0 where
  pub after : Producer
  pub refused : Stays p after
  pub lost : Loses node now after q

-- A closed link stays so. One that is being made is still, or there is none, or it is open from then on. An open one goes on, or
-- ends.
abbrev pub LinkTurns : {K S : Type 0} → Told S → (node now : ℕ) → Producer → Link K S → Producer → Link K S → Type 0
LinkTurns answers node now p Closed q Closed = q ≡ p
LinkTurns answers node now p Closed q (Dialing k) = ⊥
LinkTurns answers node now p Closed q (Open b) = ⊥
LinkTurns answers node now p (Dialing k) q Closed = Abandons node now p q
LinkTurns answers node now p (Dialing k) q (Dialing l) = q ≡ p
LinkTurns answers node now p (Dialing k) q (Open b) = (b.unwritten ≡ []) × Connects node now p q
LinkTurns answers node now p (Open a) q Closed = Ends answers node now p a q
LinkTurns answers node now p (Open a) q (Dialing k) = ⊥
LinkTurns answers node now p (Open a) q (Open b) = Serves answers node now p a q b

-- ---- by node

-- the link of a node; one that has none is closed
abbrev pub link_at : {K S : Type 0} → ℕ → List (Link K S) → Link K S
link_at node links = slice_index_or links node Closed

-- Those of other nodes are as they were.
abbrev pub OnlyAt : {K S : Type 0} → ℕ → (old new : List (Link K S)) → Type 0
OnlyAt node old new = (k : ℕ) → k ≢ node → link_at k new ≡ link_at k old

-- ---- a turn for each

-- Each of the first n nodes had its turn, in their order.
pub data EachTurns {K S : Type 0} (answers : Told S) (now : ℕ) (p : Producer) (links : List (Link K S)) : ℕ → Producer → List (Link K S) → Type 0 where
  none : EachTurns answers now p links 0 p links
  one_more : (n : ℕ) (q r : Producer) (ls ms : List (Link K S)) → EachTurns answers now p links n q ls
      → LinkTurns answers n now q (link_at n ls) r (link_at n ms) → OnlyAt n ls ms → EachTurns answers now p links (n + 1) r ms
