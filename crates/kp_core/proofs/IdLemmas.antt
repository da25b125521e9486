-- The request for an id is settled: what its response says, and the core afterwards.
use Rattle.std.proofs.Common.{◌≡◌, ◌∙◌, ℕ, Bool, true, false, not, List, Some, w16, w64, refl, sym, ap, subst, arith}
use Rattle.std.specs.Prelude.{ℤ, pos, negsuc, Result, Ok, Err, OnOk, filter, is_err, nat_abs, slice_set, if◌then◌else◌}
use Rattle.std.specs.Ordering.{int_eq}
use Rattle.std.proofs.lemmas.Bool.Decides.{Decides-int_eq}
use mir.Val.{SFits, of_z}
use Rattle.kp_frames.specs.declared.producer_id.InitProducerIdResponse.{InitProducerIdResponse}
use Rattle.kp_rules.specs.Attempts.{asks_for_id}
use Rattle.kp_rules.specs.MaySend.{wants_id}
use Rattle.kp_rules.specs.Mismatch.{answers_id, is_given}
use Rattle.kp_rules.specs.Partitions.{partition_at, with_partition}
use Rattle.kp_rules.specs.Records.{Core, Partition, Request}
use Rattle.kp_rules.specs.Replies.{give_id, go_on_under, settle_id}
use Rattle.kp_rules.proofs.CallLemmas.{idle}
use Rattle.kp_rules.proofs.OrderedCallLemmas.{IsId}
use Rattle.kp_parts.specs.Desk.{Desk}
use Rattle.kp_core.specs.Hearing.{id_given}
use Rattle.kp_core.specs.Keeping.{IsKept}
use Rattle.kp_core.proofs.KeepingLemmas.{quiet_kept}
use Rattle.kp_core.proofs.LeavingLemmas.{id_left, refusal_left}

-- ---- what the response says

-- an int64 that is not below 0 is below 2^63
fits_is_id : (z : ℤ) → SFits w64 z → IsId z
fits_is_id (pos n) f = λ e. omega (arith, f.sfits)
fits_is_id (negsuc n) f = λ e. absurd cc

is_zero : (z : ℤ) → SFits w16 z → of_z w16 z ≡ 0 → z ≡ pos 0
is_zero (pos n) f e = ap pos e
is_zero (negsuc n) f e = absurd (omega (arith, f.sfits, e))

-- an id is given
pub code_gives : (x : InitProducerIdResponse) → SFits w16 x.error_code → of_z w16 x.error_code ≡ 0 → is_given x ≡ true
code_gives x f e = (Decides-int_eq x.error_code (pos 0)).1 (is_zero x.error_code f e)

-- it is refused
pub code_refuses : (x : InitProducerIdResponse) → (of_z w16 x.error_code ≡ 0 → ⊥) → is_given x ≡ false
code_refuses x other = at_test (is_given x) refl
  where
    at_test : (b : Bool) → int_eq x.error_code (pos 0) ≡ b → b ≡ false
    at_test true e = absurd (other (ap (of_z w16) ((Decides-int_eq x.error_code (pos 0)).0 e)))
    at_test false e = refl

pub was_given : {T E : Type 0} {P : Type 0} (r : Result T E) → OnOk r P → is_err r ≡ false → P
was_given (Ok x) h e = h
was_given (Err x) h e = absurd cc

-- ---- the core afterwards

given-is : (id p : ℕ) (s : Core) → record s { partitions = id_given s.config id p s.partitions } ≡ give_id id p s
given-is id p s = at_wish (wants_id s.config t)
  where
    t : Partition
    t = partition_at p s.partitions

    at_wish : (b : Bool)
        → record s { partitions = if b then slice_set s.partitions p (go_on_under id t) else s.partitions }
        ≡ (if b then with_partition p (go_on_under id t) s else s)
    at_wish true = refl
    at_wish false = refl

abbrev by_code : ℕ → ℕ → InitProducerIdResponse → Core → Bool → Core
by_code now p x s b = if b then give_id (nat_abs x.producer_id) p (idle s) else record (idle s) { id_waits = Some now }

id-is : (now p : ℕ) (x : InitProducerIdResponse) (s : Core) (ts : List Partition) (requests : List Request) → is_given x ≡ true
    → ts ≡ id_given s.config (nat_abs x.producer_id) p s.partitions → requests ≡ filter (λ r. not (asks_for_id r)) s.requests
    → record s { partitions = ts; requests = requests } ≡ settle_id now p x s
id-is now p x s ts requests given after rest =
    ap (λ (us : List Partition). let y : Core = record s { partitions = us; requests = requests } in y) after
    ∙ ap (λ (r : List Request). let y : Core = record s { partitions = id_given s.config (nat_abs x.producer_id) p s.partitions; requests = r } in y) rest
    ∙ given-is (nat_abs x.producer_id) p (idle s)
    ∙ sym (ap (by_code now p x s) given)

pub id_kept : {s : Core} {d : Desk} (now p : ℕ) (x : InitProducerIdResponse) (ts : List Partition) (requests : List Request)
    → SFits w64 x.producer_id → answers_id x ≡ true → is_given x ≡ true → s.ended ≡ false
    → ts ≡ id_given s.config (nat_abs x.producer_id) p s.partitions → requests ≡ filter (λ r. not (asks_for_id r)) s.requests
    → IsKept s d → IsKept (record s { partitions = ts; requests = requests }) d
id_kept {s} {d} now p x ts requests small fits given going after rest k =
    subst (λ (y : Core). IsKept y d) (sym (id-is now p x s ts requests given after rest))
    (quiet_kept k (id_left now p x s (fits_is_id x.producer_id small) fits going k.order))

pub refusal_kept : {s : Core} {d : Desk} (now : ℕ) (requests : List Request) → requests ≡ filter (λ r. not (asks_for_id r)) s.requests
    → IsKept s d → IsKept (record s { requests = requests; id_waits = Some now }) d
refusal_kept {s} {d} now requests rest k =
    subst (λ (r : List Request). IsKept (record s { requests = r; id_waits = Some now }) d) (sym rest)
    (quiet_kept k (refusal_left now s k.order))
