-- Sizes of batches that wait, and where an item goes.
use Rattle.std.proofs.Common.{◌≡◌, ◌∙◌, ℕ, zero, suc, ◌+◌, ◌-◌, ◌^◌, ◌<◌, ◌≤◌, true, false, true≢false, List, [], ◌∷◌, ◌++◌, length, map, get_or, set, refl, sym, ap, subst, arith}
use Rattle.std.specs.Prelude.{Ok, if◌then◌else◌}
use Rattle.std.proofs.lemmas.List.{length-map, map-append}
use Rattle.std.proofs.lemmas.List.Sums.{sum_by-cons}
use Rattle.std.proofs.lemmas.Bool.{cond_both}
use Rattle.std.proofs.lemmas.Bool.Decides.{nat_tests}
use Rattle.kp_wire.proofs.ChoiceLemmas.{cond_under}
use Rattle.kp_batch.specs.Spelling.{measured, size_of_batch, base_timestamp}
use Rattle.kp_batch.proofs.SizeLemmas.{small_measured, size_of_batch-is, many_records}
use Rattle.kp_accum.specs.declared.config.Config.{Config}
use Rattle.kp_accum.specs.declared.item.Item.{Item}
use Rattle.kp_accum.specs.Config.{checked, is_outside}
use Rattle.kp_accum.specs.Queue.{Pending, body_of, size_of, charge_of, joins, joined_by, begun_by, with_item}
use Rattle.kp_accum.specs.Measured.{IsMeasured}

-- ---- the configuration

pub record IsAllowed (c : Config) : Type 0 where
  pub batch : c.batch_size ≤ 8388608
  pub request : c.max_request_size ≤ 8388608
  pub within : c.batch_size ≤ c.max_request_size

pub allowed : (c : Config) → checked c ≡ Ok tt → IsAllowed c
unfolding checked is_outside
allowed c e = record { batch = grind (arith, nat_tests); request = grind (arith, nat_tests); within = grind (arith, nat_tests) }

-- ---- sizes

pub size_of-is : (items : List Item) → size_of items ≡ size_of_batch (map body_of items)
unfolding size_of
size_of-is items = refl

pub size_of-last : (items : List Item) (i : Item) → size_of (items ++ i ∷ []) ≡ size_of_batch (map body_of items ++ i.body ∷ [])
unfolding size_of
size_of-last items i = ap size_of_batch (map-append body_of items (i ∷ []))

pub charge_of-is : (i : Item) → charge_of i ≡ size_of_batch (i.body ∷ [])
unfolding size_of
charge_of-is i = refl

-- each item has a byte at least
pub length-small : (items : List Item) → length items ≤ size_of items
length-small items =
    let records = map body_of items in
    omega (arith, size_of-is items, size_of_batch-is records, many_records (base_timestamp records) 0 records, length-map items body_of)

pub measured_one : (i : Item) (charge : ℕ) → charge ≡ charge_of i → charge ≤ 2147483647 → IsMeasured charge charge (i ∷ [])
measured_one i charge e fits = record {
  some = omega arith;
  size_is = e;
  fits = fits;
  charge_is = omega (arith, e, sum_by-cons charge_of i []);
  charge_fits = omega arith;
}

-- a sum of charges does not wrap
pub charge_small : (items : List Item) (size sum charge : ℕ) → IsMeasured size sum items → charge ≤ 2147483647 → sum + charge < 2 ^ 64
charge_small items size sum charge m small = omega (arith, m.charge_fits, m.fits, m.size_is, length-small items)

-- ---- joining

-- Here n is the size that is told with the item.

pub joins_within : (c : Config) (i : Item) (b : Pending) (n : ℕ) → IsAllowed c → n ≡ measured (size_of_batch (map body_of b.items ++ i.body ∷ [])) → length b.items < c.sequence_limit → n ≤ c.batch_size → joins c i b ≡ true
unfolding joins
joins_within c i b n a e few le =
    let is = small_measured n (size_of_batch (map body_of b.items ++ i.body ∷ [])) e (omega (arith, a.batch, le)) in
    let size = size_of-last b.items i in
    grind (arith, nat_tests)

pub size_within : (c : Config) (i : Item) (b : Pending) (n : ℕ) → IsAllowed c → n ≡ measured (size_of_batch (map body_of b.items ++ i.body ∷ [])) → n ≤ c.batch_size → n ≡ size_of (b.items ++ i ∷ [])
size_within c i b n a e le = small_measured n (size_of_batch (map body_of b.items ++ i.body ∷ [])) e (omega (arith, a.batch, le)) ∙ sym (size_of-last b.items i)

pub joins_not_above : (c : Config) (i : Item) (b : Pending) (n : ℕ) → IsAllowed c → n ≡ measured (size_of_batch (map body_of b.items ++ i.body ∷ [])) → c.batch_size < n → joins c i b ≡ false
unfolding joins measured
joins_not_above c i b n a e lt =
    let size = size_of-last b.items i in
    let batch = a.batch in
    grind (arith, nat_tests)

pub joins_not_many : (c : Config) (i : Item) (b : Pending) → c.sequence_limit ≤ length b.items → joins c i b ≡ false
unfolding joins
joins_not_many c i b many = grind (arith, nat_tests)

pub joined_size : (c : Config) (i : Item) (b : Pending) → joins c i b ≡ true → size_of (b.items ++ i ∷ []) ≤ c.batch_size
unfolding joins
joined_size c i b e = grind (arith, nat_tests)

-- ---- the queue with one item more

-- by whether it joins the last batch
with_item-last : (c : Config) (i : Item) (qs : List Pending) (n : ℕ) (d : Pending) → suc n ≡ length qs
    → with_item c i qs ≡ (if joins c i (get_or qs n d) then set qs n (joined_by i (get_or qs n d)) else qs ++ begun_by i ∷ [])
unfolding with_item
with_item-last c i [] n d h = absurd (omega arith)
with_item-last c i (b ∷ []) zero d h = refl
with_item-last c i (b ∷ []) (suc n) d h = absurd (omega arith)
with_item-last c i (b ∷ b' ∷ bs) zero d h = absurd (omega arith)
with_item-last c i (b ∷ b' ∷ bs) (suc n) d h =
    let k : suc n ≡ length (b' ∷ bs) = omega arith in
    ap (λ z. b ∷ z) (with_item-last c i (b' ∷ bs) n d k) ∙ cond_under (λ z. b ∷ z) (joins c i (get_or (b' ∷ bs) n d)) _ _

-- what holds of the queue where the item joins the last batch, and where it begins one behind it, holds
pub at_with_item : (P : List Pending → Type 0) (c : Config) (i : Item) (qs : List Pending)
    → ((n : ℕ) (d : Pending) → suc n ≡ length qs → joins c i (get_or qs n d) ≡ true → P (set qs n (joined_by i (get_or qs n d)))) → P (qs ++ begun_by i ∷ []) → P (with_item c i qs)
unfolding with_item
at_with_item P c i [] joined begun = begun
at_with_item P c i (b ∷ bs) joined begun =
    subst P (sym (with_item-last c i (b ∷ bs) (length bs) b refl))
    (cond_both (joins c i (get_or (b ∷ bs) (length bs) b)) _ _ P (λ e. joined (length bs) b refl e) (λ e. begun))

pub joined_last : (c : Config) (i : Item) (qs : List Pending) (n : ℕ) (d : Pending) → suc n ≡ length qs → joins c i (get_or qs n d) ≡ true → with_item c i qs ≡ set qs n (joined_by i (get_or qs n d))
joined_last c i qs n d h e = with_item-last c i qs n d h ∙ ap (λ z. if z then set qs n (joined_by i (get_or qs n d)) else qs ++ begun_by i ∷ []) e

-- where the item joins no last batch
pub begun_behind : (c : Config) (i : Item) (qs : List Pending) → ((d : Pending) → 0 < length qs → false ≡ joins c i (get_or qs (length qs - 1) d)) → with_item c i qs ≡ qs ++ begun_by i ∷ []
begun_behind c i qs h =
    at_with_item (λ new. new ≡ qs ++ begun_by i ∷ []) c i qs
    (λ n d last e.
    let at : length qs - 1 ≡ n = omega arith in
    absurd (true≢false (sym e ∙ sym (h d (omega arith) ∙ ap (λ k. joins c i (get_or qs k d)) at))))
    refl
