-- The audit with items more: its last run, and how many items each run has.
use Rattle.std.proofs.Common.{◌≡◌, ◌∙◌, ℕ, zero, suc, ◌+◌, ◌-◌, ◌≤◌, ◌<◌, Bool, true, false, List, [], ◌∷◌, ◌++◌, length, get_or, set, refl, sym, ap, arith}
use Rattle.std.specs.Prelude.{if◌then◌else◌}
use Rattle.kp_wire.proofs.ChoiceLemmas.{cond_under}
use Rattle.kp_accum.specs.declared.item.Item.{Item}
use Rattle.kp_rules.specs.declared.run.Run.{Run}
use Rattle.kp_rules.specs.HandingOver.{run_of, goes_on, with_audited, audited}
use Rattle.kp_parts.specs.PartitionRooms.{CountsAtMost}

abbrev pub one_more : Run → Run
one_more r = record r { count = r.count + 1 }

-- ---- the last run

with_audited-last : (i : Item) (rs : List Run) (n : ℕ) (d : Run) → suc n ≡ length rs
    → with_audited i rs ≡ (if goes_on i (get_or rs n d) then set rs n (one_more (get_or rs n d)) else rs ++ run_of i ∷ [])
unfolding with_audited
with_audited-last i [] n d h = absurd (omega arith)
with_audited-last i (r ∷ []) zero d h = refl
with_audited-last i (r ∷ []) (suc n) d h = absurd (omega arith)
with_audited-last i (r ∷ r' ∷ rs) zero d h = absurd (omega arith)
with_audited-last i (r ∷ r' ∷ rs) (suc n) d h =
    let k : suc n ≡ length (r' ∷ rs) = omega arith in
    ap (λ (z : List Run). r ∷ z) (with_audited-last i (r' ∷ rs) n d k)
    ∙ cond_under (λ (z : List Run). r ∷ z) (goes_on i (get_or (r' ∷ rs) n d)) _ _

pub audited_in_last : (i : Item) (rs : List Run) (n : ℕ) (d : Run) → suc n ≡ length rs → goes_on i (get_or rs n d) ≡ true
    → with_audited i rs ≡ set rs n (one_more (get_or rs n d))
audited_in_last i rs n d h e =
    with_audited-last i rs n d h
    ∙ ap (λ (z : Bool). if z then set rs n (one_more (get_or rs n d)) else rs ++ run_of i ∷ []) e

pub audited_behind : (i : Item) (rs : List Run) (n : ℕ) (d : Run) → suc n ≡ length rs → goes_on i (get_or rs n d) ≡ false
    → with_audited i rs ≡ rs ++ run_of i ∷ []
audited_behind i rs n d h e =
    with_audited-last i rs n d h
    ∙ ap (λ (z : Bool). if z then set rs n (one_more (get_or rs n d)) else rs ++ run_of i ∷ []) e

pub audited_first : (i : Item) (rs : List Run) → length rs ≡ 0 → with_audited i rs ≡ rs ++ run_of i ∷ []
unfolding with_audited
audited_first i [] h = refl
audited_first i (r ∷ rs) h = absurd (omega arith)

-- ---- how many items the runs have

pub counts-weaker : (n m : ℕ) (rs : List Run) → n ≤ m → CountsAtMost n rs → CountsAtMost m rs
counts-weaker n m [] le h = tt
counts-weaker n m (r ∷ rs) le h =
    let here : r.count ≤ n = h.0 in
    (omega arith, counts-weaker n m rs le h.1)

pub counts-with_audited : (i : Item) (n : ℕ) (rs : List Run) → CountsAtMost n rs → CountsAtMost (n + 1) (with_audited i rs)
unfolding with_audited
counts-with_audited i n [] h = (omega arith, tt)
counts-with_audited i n (r ∷ []) h = at_test (goes_on i r)
  where
    at_test : (b : Bool) → CountsAtMost (n + 1) (if b then one_more r ∷ [] else r ∷ run_of i ∷ [])
    at_test true = let here : r.count ≤ n = h.0 in (omega arith, tt)
    at_test false = let here : r.count ≤ n = h.0 in (omega arith, (omega arith, tt))
counts-with_audited i n (r ∷ r' ∷ rs) h =
    let here : r.count ≤ n = h.0 in
    (omega arith, counts-with_audited i n (r' ∷ rs) h.1)

pub counts-audited : (is : List Item) (n : ℕ) (rs : List Run) → CountsAtMost n rs → CountsAtMost (n + length is) (audited rs is)
unfolding audited
counts-audited [] n rs h = counts-weaker n (n + 0) rs (omega arith) h
counts-audited (i ∷ is) n rs h =
    let same : n + 1 + length is ≤ n + length (i ∷ is) = omega arith in
    counts-weaker (n + 1 + length is) (n + length (i ∷ is)) (audited (with_audited i rs) is) same
    (counts-audited is (n + 1) (with_audited i rs) (counts-with_audited i n rs h))

pub audited-cons : (rs : List Run) (i : Item) (is : List Item) → audited rs (i ∷ is) ≡ audited (with_audited i rs) is
unfolding audited
audited-cons rs i is = refl

pub audited-none : (rs : List Run) → audited rs [] ≡ rs
unfolding audited
audited-none rs = refl

-- where the item goes on with no last run
pub audited_apart : (i : Item) (rs : List Run) → ((d : Run) → 0 < length rs → false ≡ goes_on i (get_or rs (length rs - 1) d))
    → with_audited i rs ≡ rs ++ run_of i ∷ []
audited_apart i [] h = audited_first i [] refl
audited_apart i (r ∷ rs) h =
    let at : length (r ∷ rs) - 1 ≡ length rs = omega arith in
    let some : 0 < length (r ∷ rs) = omega arith in
    audited_behind i (r ∷ rs) (length rs) r refl (ap (λ (n : ℕ). goes_on i (get_or (r ∷ rs) n r)) (sym at) ∙ sym (h r some))
