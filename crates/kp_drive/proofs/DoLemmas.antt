-- What the producer tells is done.
use Rattle.std.proofs.Common.{◌≡◌, ℕ, List, sym, ◌∙◌, subst}
use Rattle.kp_cluster.specs.declared.action.Action.TheVariants.{Connect}
use Rattle.kp_drive.specs.Doing.{Does, Obeys}
use Rattle.kp_drive.specs.Links.{OnlyAt, link_at}
use Rattle.kp_drive.specs.declared.link.Link.{Link}
use Rattle.kp_drive.specs.declared.link.Link.TheVariants.{Closed, Dialing, Open}
use Rattle.kp_embed.specs.Connecting.{Loses}
use Rattle.kp_embed.specs.Producer.{Producer}

module _ {K S : Type 0} (now node : ℕ) (p q : Producer) where
  lost_so : (old : Link K S) → Loses node now p q → Obeys now (Connect node) p old q Closed
  lost_so Closed lost = lost
  lost_so (Dialing k) lost = lost
  lost_so (Open pipe) lost = lost

  -- no connection was begun, and the link is closed
  pub not_begun : (ls ms ns : List (Link K S)) → ((k : ℕ) → link_at k ms ≡ link_at k ls) → link_at node ns ≡ Closed → OnlyAt node ms ns → Loses node now p q
      → Does now (Connect node) p ls q ns
  not_begun ls ms ns same closed others lost = record {
    its = subst (Obeys now (Connect node) p (link_at node ls) q) (sym closed) (lost_so (link_at node ls) lost);
    others = λ k other. others k other ∙ same k;
  }
