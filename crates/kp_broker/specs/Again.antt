-- A Produce request that comes again once some of its parts were taken.
use Rattle.std.specs.Prelude.{◌≡◌, ℕ, List, [], ◌∷◌, nat_abs}
use Rattle.std.specs.List.{AllByRecursion}
use Rattle.kp_broker.specs.Answers.{Part}
use Rattle.kp_broker.specs.Broker.{Broker, leads}

abbrev pub IsSamePartition : Part → Part → Type 0
IsSamePartition p q = (p.topic ≡ q.topic) × (p.partition ≡ q.partition)

-- Each partition stands in it once.
abbrev pub AreApart : List Part → Type 0
AreApart [] = Unit {0}
AreApart (p ∷ parts) = AllByRecursion (λ q. ¬ (IsSamePartition p q)) parts × AreApart parts

-- Just where one node led the part's partition before, the other leads it now.
abbrev pub IsLedAlike : ℕ → Broker → ℕ → Broker → Part → Type 0
IsLedAlike node before other now p =
    let partition = nat_abs p.partition in
    leads other now partition ≡ leads node before partition
