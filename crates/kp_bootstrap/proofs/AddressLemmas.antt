-- Addresses that are read one after the other.
use Rattle.std.proofs.Common.{◌≡◌, ℕ, ◌+◌, ◌<◌, ◌≤◌, List, [], ◌∷◌, ◌++◌, length, get_or, take, sym, ap, ◌∙◌, subst}
use Rattle.std.proofs.lemmas.List.{take_all, take_more}
use Rattle.kp_bootstrap.specs.Addresses.{AreAddresses, one_more, PutsAddress}
use Rattle.kp_cluster.specs.declared.slot.Address.{Address}

pub addresses_more : (entries : List (List ℕ)) (n : ℕ) (entry : List ℕ) (old new : List Address) → n < length entries → entry ≡ get_or entries n entry
    → AreAddresses (take n entries) old → PutsAddress entry old new → AreAddresses (take (n + 1) entries) new
addresses_more entries n entry old new lt here before puts =
    let same : take n entries ++ entry ∷ [] ≡ take (n + 1) entries = ap (λ (e : List ℕ). take n entries ++ e ∷ []) here ∙ sym (take_more entries n entry lt) in
    subst (λ (xs : List Address). AreAddresses (take (n + 1) entries) xs) (sym puts.put)
    (subst (λ (es : List (List ℕ)). AreAddresses es (old ++ puts.address ∷ [])) same
    (one_more (take n entries) old entry puts.address before puts.is))

pub addresses_all : (entries : List (List ℕ)) (n : ℕ) (addresses : List Address) → length entries ≤ n → AreAddresses (take n entries) addresses → AreAddresses entries addresses
addresses_all entries n addresses past are = subst (λ (es : List (List ℕ)). AreAddresses es addresses) (take_all n entries past) are
