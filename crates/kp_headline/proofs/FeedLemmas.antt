-- The items of one sender that calls offer to the core, one after the other, and whether they were appended.
use Rattle.std.proofs.Common.{◌≡◌, ◌≢◌, ℕ, Bool, true, false, List, [], ◌∷◌, ◌++◌, map, refl, sym, ap, ◌∙◌, subst}
use Rattle.std.specs.Prelude.{Result, Ok, Err, flat_map, ◌==◌, if◌then◌else◌}
use Rattle.std.specs.List.{AllByRecursion}
use Rattle.std.proofs.lemmas.Bool.{eq-eqb, ne_eqb}
use Rattle.kp_accum.specs.declared.fault.AppendFault.{AppendFault}
use Rattle.kp_accum.specs.declared.item.Item.{Item}
use Rattle.kp_rules.specs.Calls.{Call, Append}

-- an item, and whether it was appended
abbrev pub Offer : Type 0
Offer = Item × Bool

abbrev pub was_appended : Result (Unit {0}) AppendFault → Bool
was_appended (Ok done) = true
was_appended (Err refusal) = false

abbrev pub offered_by : ℕ → Call → List Offer
offered_by i (Append x answer) = if x.sender == i then (x, was_appended answer) ∷ [] else []
offered_by i call = []

abbrev pub offers : ℕ → List Call → List Offer
offers i calls = flat_map (offered_by i) calls

-- Each is the first of those that wait, and waits no more once it was appended; in the end these wait.
abbrev pub Feeds : List Item → List Offer → List Item → Type 0
Feeds before [] after = after ≡ before
Feeds before ((x, true) ∷ os) after = (rest : List Item) × (before ≡ x ∷ rest) × Feeds rest os after
Feeds before ((x, false) ∷ os) after = (rest : List Item) × (before ≡ x ∷ rest) × Feeds before os after

pub feeds_then : (a b c : List Item) (os ps : List Offer) → Feeds a os b → Feeds b ps c → Feeds a (os ++ ps) c
feeds_then a b c [] ps f g = subst (λ (xs : List Item). Feeds xs ps c) f g
feeds_then a b c ((x, true) ∷ os) ps f g = (f.0, f.1, feeds_then f.0 b c os ps f.2 g)
feeds_then a b c ((x, false) ∷ os) ps f g = (f.0, f.1, feeds_then a b c os ps f.2 g)

-- what waits in the end stands last in what waited
pub wait_last : (a b : List Item) (os : List Offer) → Feeds a os b → (before : List Item) × (a ≡ before ++ b)
wait_last a b [] f = ([], sym f)
wait_last a b ((x, true) ∷ os) f = let later = wait_last f.0 b os f.2 in (x ∷ later.0, f.1 ∙ ap (λ (xs : List Item). x ∷ xs) later.1)
wait_last a b ((x, false) ∷ os) f = wait_last a b os f.2

-- ---- a call that offers an item

pub offer_here : (x : Item) (i : ℕ) (answer : Result (Unit {0}) AppendFault) → x.sender ≡ i → offered_by i (Append x answer) ≡ (x, was_appended answer) ∷ []
offer_here x i answer same = let e : (x.sender == i) ≡ true = eq-eqb x.sender i same in rw e refl

pub offer_elsewhere : (x : Item) (i : ℕ) (answer : Result (Unit {0}) AppendFault) → x.sender ≢ i → offered_by i (Append x answer) ≡ []
offer_elsewhere x i answer other = let e : (x.sender == i) ≡ false = ne_eqb x.sender i other in rw e refl

-- ---- items of one sender

abbrev pub Theirs : ℕ → List Item → Type 0
Theirs i items = AllByRecursion (λ x. x.sender ≡ i) items

abbrev pub all_appended : List Item → List Offer
all_appended items = map (λ x. (x, true)) items

-- ---- what they feed

pub all_feed : (items rest : List Item) → Feeds (items ++ rest) (all_appended items) rest
all_feed [] rest = refl
all_feed (x ∷ items) rest = (items ++ rest, refl, all_feed items rest)
