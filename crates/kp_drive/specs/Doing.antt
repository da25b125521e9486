-- What the producer has its owner do with connections.
use Rattle.std.specs.Prelude.{◌≡◌, ℕ, List, Option, Some, None}
use Rattle.kp_cluster.specs.Actions.{told}
use Rattle.kp_cluster.specs.declared.action.Action.{Action}
use Rattle.kp_cluster.specs.declared.action.Action.TheVariants.{Connect, Close}
use Rattle.kp_drive.specs.Links.{OnlyAt, link_at}
use Rattle.kp_drive.specs.declared.link.Link.{Link}
use Rattle.kp_drive.specs.declared.link.Link.TheVariants.{Closed, Dialing}
use Rattle.kp_embed.specs.Connecting.{Loses}
use Rattle.kp_embed.specs.Producer.{Producer, with_cluster}

-- The producer told this, or that there is nothing.
pub record Tells (now : ℕ) (action : Option Action) (p q : Producer) : Type 0 where
  pub told : told now p.cluster ≡ record { action = action; cluster = q.cluster }
  pub same : q ≡ with_cluster q.cluster p

abbrev pub node_of : Action → ℕ
node_of (Connect node) = node
node_of (Close node) = node

-- A connection is begun where there is none. One that can't be begun, and one that is closed, is told to be lost.
abbrev pub Obeys : {K S : Type 0} → (now : ℕ) → Action → Producer → Link K S → Producer → Link K S → Type 0
Obeys now (Connect node) p Closed q (Dialing k) = q ≡ p
Obeys now (Connect node) p old q Closed = Loses node now p q
Obeys now (Connect node) p old q new = ⊥
Obeys now (Close node) p old q Closed = Loses node now p q
Obeys now (Close node) p old q new = ⊥

-- This was done with the node's link, and nothing with the others.
pub record Does {K S : Type 0} (now : ℕ) (action : Action) (p : Producer) (ls : List (Link K S)) (q : Producer) (ms : List (Link K S)) : Type 0 where
  pub its : Obeys now action p (link_at (node_of action) ls) q (link_at (node_of action) ms)
  pub others : OnlyAt (node_of action) ls ms

-- What it told was done, one after the other.
pub data DoesAll {K S : Type 0} (now : ℕ) (p : Producer) (links : List (Link K S)) : Producer → List (Link K S) → Type 0 where
  none : DoesAll now p links p links
  one_more : (action : Action) (q r s : Producer) (ls ms : List (Link K S)) → DoesAll now p links q ls → Tells now (Some action) q r
      → Does now action r ls s ms → DoesAll now p links s ms
  nothing : (q r : Producer) (ls : List (Link K S)) → DoesAll now p links q ls → Tells now None q r → DoesAll now p links r ls
