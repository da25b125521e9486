-- Any list of calls on a cluster, and what is true of it throughout.
use Rattle.std.specs.Prelude.{◌≡◌, ℕ, ℤ, true, Option, Some, List, [], ◌∷◌, ◌++◌, map, slice_get}
use Rattle.kp_hello.specs.declared.Node.{Node}
use Rattle.kp_cluster.specs.declared.slot.Slot.{Slot}
use Rattle.kp_cluster.specs.Cluster.{Cluster, connected, with_given_up, with_wanted, with_answered, asking_again, chart_refused}
use Rattle.kp_cluster.specs.Backoff.{Loses}
use Rattle.kp_cluster.specs.Metadata.{may_ask, asked, heeded}
use Rattle.kp_cluster.specs.Actions.{told}
use Rattle.kp_cluster.specs.Learning.{learned}

-- A call that may change a cluster.
pub data Call : Type 0 where
  NextAction : (now : ℕ) → Call
  Connected : (n : ℕ) → Call
  Lost : (n now : ℕ) → Call
  GiveUp : (n : ℕ) → Call
  Want : (n : ℕ) → Call
  Answered : (n : ℕ) → Call
  Asked : (n now : ℕ) → Call
  AskAgain : Call
  RefuseChart : Call
  Heed : (now : ℕ) → Call
  Learn : (nodes : List Node) → (leaders : List (Option ℤ)) → (now : ℕ) → Call

-- what the call makes of a cluster
abbrev pub Step : Cluster → Call → Cluster → Type 0
Step a (NextAction now) b = b ≡ (told now a).cluster
Step a (Connected n) b = b ≡ connected n a
Step a (Lost n now) b = Loses n now a b
Step a (GiveUp n) b = b ≡ with_given_up n a
Step a (Want n) b = b ≡ with_wanted n a
Step a (Answered n) b = b ≡ with_answered n a
Step a (Asked n now) b = (may_ask n now a ≡ true) × (b ≡ asked n now a)
Step a AskAgain b = b ≡ asking_again a
Step a RefuseChart b = b ≡ chart_refused a
Step a (Heed now) b = b ≡ heeded now a
Step a (Learn nodes leaders now) b = b ≡ learned nodes leaders now a

-- These calls, in their order, make the one of the other.
pub data Runs (a : Cluster) : List Call → Cluster → Type 0 where
  not_yet : Runs a [] a
  once_more : (b c : Cluster) (calls : List Call) (call : Call) → Runs a calls b → Step b call c → Runs a (calls ++ call ∷ []) c

-- ---- the slots' ids

abbrev pub id_of : Slot → Option ℤ
id_of s = s.id

abbrev pub ids : Cluster → List (Option ℤ)
ids c = map id_of c.slots

-- The one list goes on behind the other.
pub record GoesOn (xs ys : List (Option ℤ)) : Type 0 where
  pub more : List (Option ℤ)
  pub is : ys ≡ xs ++ more

-- No broker has two slots.
abbrev pub AreDistinct : List (Option ℤ) → Type 0
AreDistinct xs = (i j : ℕ) (id : ℤ) → slice_get xs i ≡ Some (Some id) → slice_get xs j ≡ Some (Some id) → i ≡ j
