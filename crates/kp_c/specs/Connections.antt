-- What is told of connections.
use Rattle.std.specs.Prelude.{◌≡◌, ℕ}
use Rattle.kp_c.specs.Values.{told_action}
use Rattle.kp_c.specs.declared.values.KpAction.{KpAction}
use Rattle.kp_cluster.specs.Actions.{told}
use Rattle.kp_embed.specs.Producer.{Producer, with_cluster}

-- It is the cluster's next action, which is told; all else is as it was.
pub record Tells (now : ℕ) (action : KpAction) (old new : Producer) : Type 0 where
  pub is : action ≡ told_action (told now old.cluster).action
  pub cluster : new ≡ with_cluster (told now old.cluster).cluster old
