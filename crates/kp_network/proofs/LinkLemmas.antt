-- Links by node.
use Rattle.std.proofs.Common.{◌≡◌, ◌≢◌, ◌+◌, ◌<◌, ℕ, List, length, get_or, set, sym, subst, refl, ⊎_elim, arith, ◌∙◌, ap, Option, Some, None, true≢false}
use Rattle.std.specs.Prelude.{MatchOption, is_some}
use Rattle.std.proofs.lemmas.Bool.{cases_eq}
use Rattle.std.proofs.lemmas.List.{get_or-set_other, get_or-set_same, get_or_default}
use Rattle.futures.specs.Task.{Hears, Keeps, Lasting}
use Rattle.futures.specs.declared.task.context.Context.{Context}
use Rattle.kp_network.specs.Links.{AreStill, IsDialing, IsStill, OnlyAt, link_at, waited_by, waited_by_each}
use Rattle.kp_network.specs.declared.link.Link.{Link}
use Rattle.kp_network.specs.declared.link.Link.TheVariants.{Away, Dialing, Made}

-- ---- links that are written

pub link_is : {K : Type 0} (ls : List (Link K)) (i : ℕ) (link : Link K) → i < length ls → link ≡ get_or ls i link → link_at i ls ≡ link
link_is ls i link there is = get_or_default ls i Away link there ∙ sym is

pub link_put : {K : Type 0} (ls : List (Link K)) (i : ℕ) (new : Link K) → i < length ls → link_at i (set ls i new) ≡ new
link_put ls i new there = get_or-set_same ls i new Away there

pub others_stay : {K : Type 0} (ls : List (Link K)) (i : ℕ) (new : Link K) → OnlyAt i ls (set ls i new)
others_stay ls i new k other = get_or-set_other ls i k new Away other

-- ---- while they are being made

pub still_same : {K : Type 0} (link : Link K) → IsStill link link
still_same Away = refl
still_same (Dialing k) = tt
still_same Made = refl

still_on : {K : Type 0} (a b : Link K) (k l : K) → IsStill a b → b ≡ Dialing k → IsStill a (Dialing l)
still_on Away b k l still is = absurd (away_not (sym still ∙ is))
  where
    away_not : Away ≡ Dialing k → ⊥
    away_not e = cc
still_on (Dialing j) b k l still is = tt
still_on Made b k l still is = absurd (made_not (sym still ∙ is))
  where
    made_not : Made ≡ Dialing k → ⊥
    made_not e = cc

-- one more was polled
pub still_more : {K : Type 0} (links ls : List (Link K)) (i : ℕ) (k l : K) → AreStill links ls → i < length ls → link_at i ls ≡ Dialing k → AreStill links (set ls i (Dialing l))
still_more links ls i k l still there is n = ⊎_elim
    (λ (same : n ≡ i). subst (λ (m : ℕ). IsStill (link_at m links) (link_at m (set ls i (Dialing l)))) (sym same)
    (subst (IsStill (link_at i links)) (sym (link_put ls i (Dialing l) there)) (still_on (link_at i links) (link_at i ls) k l (still i) is)))
    (λ (other : n ≢ i). subst (IsStill (link_at n links)) (sym (others_stay ls i (Dialing l) n other)) (still n))
    (cases_eq n i)

pub dialing_put : {K : Type 0} (ls : List (Link K)) (i : ℕ) (l : K) → i < length ls → IsDialing (link_at i (set ls i (Dialing l)))
dialing_put ls i l there = subst IsDialing (sym (link_put ls i (Dialing l) there)) tt

-- The links before this one were polled, and this poll has registered for them.
abbrev pub Registered : {K : Type 0} → (K → ℕ → Type 0) → Context → ℕ → List (Link K) → Type 0
Registered waits cx n links = (k : ℕ) → k < n → (s : ℕ) → waited_by waits (link_at k links) s → Hears cx s

pub registered_kept : {K : Type 0} (waits : K → ℕ → Type 0) (old new : Context) → Keeps old new → (n : ℕ) (links : List (Link K)) → Registered waits old n links → Registered waits new n links
registered_kept waits old new keeps n links before k less s w = keeps (Lasting.hears s) (before k less s w)

pub registered_more : {K : Type 0} (waits : K → ℕ → Type 0) (cx : Context) (links ls : List (Link K)) (n : ℕ) → OnlyAt n links ls → Registered waits cx n links
    → ((s : ℕ) → waited_by waits (link_at n ls) s → Hears cx s) → Registered waits cx (n + 1) ls
registered_more waits cx links ls n others before this k less s w = ⊎_elim
    (λ (same : k ≡ n). this s (subst (λ (m : ℕ). waited_by waits (link_at m ls) s) same w))
    (λ (other : k ≢ n). before k (below other) s (subst (λ (l : Link _). waited_by waits l s) (others k other) w))
    (cases_eq k n)
  where
    below : k ≢ n → k < n
    below other = omega arith

pub registered_all : {K : Type 0} (waits : K → ℕ → Type 0) (cx : Context) (links : List (Link K)) → Registered waits cx (length links) links → (s : ℕ) → waited_by_each waits links s → Hears cx s
registered_all waits cx links all s w = all w.0 w.1 s w.2

-- ---- where none is found

pub none_found : (r : Option ℕ) (A : Type 0) (B : ℕ → Type 0) → MatchOption r A B → r ≡ None → A
none_found None A B m none = m
none_found (Some n) A B m none = absurd (true≢false (ap is_some none))
