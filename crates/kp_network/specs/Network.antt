-- What contracts see of a network.
use Rattle.std.specs.Prelude.{◌≡◌, ◌⊎◌, ◌||◌, ◌==◌, not, ℕ, Bool, List, Option, Some, None, if◌then◌else◌, min, nat_lt, length}
use Rattle.kp_cluster.specs.Cluster.{Cluster, leader_of}
use Rattle.kp_hello.specs.declared.hello.TheConstants.{PARTITION_LIMIT}
use Rattle.kp_network.specs.Asking.{waited_by_question}
use Rattle.kp_network.specs.Links.{waited_by_each}
use Rattle.kp_network.specs.News.{heeding_replies, told_leader}
use Rattle.kp_network.specs.declared.link.Link.{Link}
use Rattle.kp_network.specs.declared.network.Network.{Network}
use Rattle.kp_network.specs.declared.nodes.Nodes.{Nodes}
use Rattle.kp_rules.specs.Records.{Core}
use Rattle.kp_rules.specs.Partitions.{all_untold}

-- its cluster, and the connections
abbrev pub nodes_of : {R D K S : Type 0} → Network R D K S → Nodes D K
nodes_of network = network.nodes

abbrev pub cluster_of : {R D K S : Type 0} → Network R D K S → Cluster
cluster_of network = network.nodes.cluster

-- the connections, by node
abbrev pub links_of : {R D K S : Type 0} → Network R D K S → List (Link K)
links_of network = network.nodes.links.items

-- the moment that its clock showed last
abbrev pub moment_of : {R D K S : Type 0} → Network R D K S → ℕ
moment_of network = network.clock.shown

-- of how many partitions it was told who leads them by the last chart
abbrev pub told_of : {R D K S : Type 0} → Network R D K S → ℕ
told_of network = network.told

-- how many connections the engine was given
abbrev pub made_of : {R D K S : Type 0} → Network R D K S → ℕ
made_of network = network.made

-- a connection may be made: something is not told, or no chart is known
abbrev pub may_connect : Core → Cluster → Bool
may_connect core c = not (length (all_untold core) == 0) || length c.leaders == 0

-- of so many partitions the next whose leader is to be told, and its leader, where those of the first ones were told
abbrev pub next_led : (count told : ℕ) → Cluster → Option (ℕ × ℕ)
next_led count told c = if nat_lt told (min count PARTITION_LIMIT) then Some (told, told_leader (leader_of told c)) else None

-- So many replies told of no record. No more than whether Metadata is wanted is another.
pub record Notes {R D K S : Type 0} (unreported : ℕ) (old new : Network R D K S) : Type 0 where
  pub cluster : new.nodes.cluster ≡ heeding_replies unreported old.nodes.cluster
  pub links : new.nodes.links.items ≡ old.nodes.links.items
  pub told : new.told ≡ old.told
  pub made : new.made ≡ old.made
  pub clock : new.clock ≡ old.clock

-- what it waits for: what makes connections, and the question's
abbrev pub waits_of : {R D K S : Type 0} → (waits : K → ℕ → Type 0) (reader writer : S → ℕ → Type 0) → Network R D K S → ℕ → Type 0
waits_of waits reader writer network source =
    waited_by_each waits network.nodes.links.items source ⊎ waited_by_question waits reader writer network.question source
