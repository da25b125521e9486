-- What is seen of a producer.
use Rattle.std.specs.Prelude.{◌≡◌, ◌≤◌, ◌-◌, ◌^◌, ℕ, List, length, IfSome, Option, Some}
use Rattle.std.specs.Option.{unwrap_or}
use Rattle.kp_c.specs.declared.values.KpState.{KpState}
use Rattle.kp_cluster.specs.Actions.{next_due}
use Rattle.kp_cluster.specs.Cluster.{address_at}
use Rattle.kp_embed.specs.Due.{NotLater, due_of, following, no_sooner}
use Rattle.kp_embed.specs.Producer.{Producer}
use Rattle.kp_embed.specs.Seeing.{flushed_of, in_flight_of, phase_of, untold_of, used_of}
use Rattle.kp_embed.specs.declared.embed.Phase.{Phase}
use Rattle.kp_embed.specs.declared.embed.Phase.TheVariants.{Opening, Ready, Spent, Failed}

-- a node's host and port
abbrev pub IsAddress : ℕ → (host : List ℕ) → (port : ℕ) → Producer → Type 0
IsAddress node host port p = address_at node p.cluster ≡ Some (host, port)

-- no moment, in C
abbrev pub NEVER : ℕ
NEVER = 2 ^ 64 - 1

-- When there may be something to do again, as the producer tells it.
pub record TellsDue (now moment : ℕ) (p : Producer) : Type 0 where
  pub due : Option ℕ
  pub is : moment ≡ unwrap_or due NEVER
  pub ready : IfSome p.core (λ s. due ≡ due_of now s p.cluster)
  pub cluster : NotLater (no_sooner (following now) (next_due p.cluster)) due
  pub later : IfSome due (λ at. following now ≤ at)

abbrev pub phase_number : Phase → ℕ
phase_number Opening = 0
phase_number Ready = 1
phase_number Failed = 2
phase_number Spent = 3

-- The state is the producer's, but for the error code of the last refusal.
pub record Shows (s : KpState) (p : Producer) : Type 0 where
  pub untold : s.untold ≡ untold_of p.core
  pub used : s.buffer_used ≡ used_of p.core
  pub in_flight : s.requests_in_flight ≡ in_flight_of p.core
  pub nodes : s.nodes ≡ length p.cluster.slots
  pub partitions : s.partitions ≡ length p.counts
  pub phase : s.phase ≡ phase_number (phase_of p.core p.is_failed)
  pub is_flushed : s.is_flushed ≡ flushed_of p.core
