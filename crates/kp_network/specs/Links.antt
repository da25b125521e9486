-- The connections to nodes, by node.
use Rattle.std.specs.Prelude.{◌≡◌, ◌≢◌, ◌<◌, ℕ, Bool, true, false, List, length, slice_index_or}
use Rattle.kp_network.specs.declared.link.Link.{Link}
use Rattle.kp_network.specs.declared.link.Link.TheVariants.{Away, Dialing, Made}

-- the link of a node; one that has none has no connection
abbrev pub link_at : {K : Type 0} → ℕ → List (Link K) → Link K
link_at node links = slice_index_or links node Away

-- Those of other nodes are as they were.
abbrev pub OnlyAt : {K : Type 0} → ℕ → (old new : List (Link K)) → Type 0
OnlyAt node old new = (k : ℕ) → k ≢ node → link_at k new ≡ link_at k old

-- the engine has the connection
abbrev pub is_made : {K : Type 0} → Link K → Bool
is_made Away = false
is_made (Dialing k) = false
is_made Made = true

-- the engine has a connection to the node
abbrev pub has : {K : Type 0} → ℕ → List (Link K) → Bool
has node links = is_made (link_at node links)

-- ---- while connections are being made

-- a connection to the node is being made
abbrev pub IsDialing : {K : Type 0} → Link K → Type 0
IsDialing Away = ⊥
IsDialing (Dialing k) = Unit {0}
IsDialing Made = ⊥

-- It is as it was, but what makes its connection may have gone on.
abbrev pub IsStill : {K : Type 0} → (old new : Link K) → Type 0
IsStill Away new = new ≡ Away
IsStill (Dialing k) new = IsDialing new
IsStill Made new = new ≡ Made

abbrev pub AreStill : {K : Type 0} → (old new : List (Link K)) → Type 0
AreStill old new = (k : ℕ) → IsStill (link_at k old) (link_at k new)

-- what a link waits for: what makes its connection
abbrev pub waited_by : {K : Type 0} → (K → ℕ → Type 0) → Link K → ℕ → Type 0
waited_by waits Away source = ⊥
waited_by waits (Dialing k) source = waits k source
waited_by waits Made source = ⊥

abbrev pub waited_by_each : {K : Type 0} → (K → ℕ → Type 0) → List (Link K) → ℕ → Type 0
waited_by_each waits links source = (k : ℕ) × (k < length links) × waited_by waits (link_at k links) source
