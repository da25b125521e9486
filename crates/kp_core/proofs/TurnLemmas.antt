-- The partitions in turn, and what they send.
use Rattle.std.proofs.Common.{◌≡◌, ◌∙◌, ℕ, zero, suc, ◌+◌, ◌≤◌, Bool, true, List, [], ◌∷◌, ◌++◌, ◌-◌, length, take, drop, min, inl, inr, refl, sym, ap, arith}
use Rattle.std.specs.Prelude.{filter_map, if◌then◌else◌, nat_le}
use Rattle.std.specs.List.{AllByRecursion, enumerate_from}
use Rattle.std.proofs.lemmas.Bool.{cases_lt}
use Rattle.std.proofs.lemmas.Bool.Decides.{nat_tests}
use Rattle.std.proofs.lemmas.List.{drop_all, take_all}
use Rattle.std.proofs.lemmas.List.FromFn.{length-enumerate_from}
use Rattle.kp_accum.specs.declared.flags.Flags.{Flags}
use Rattle.kp_accum.specs.Queue.{size_of}
use Rattle.kp_rules.specs.InOrder.{IsInOrder}
use Rattle.kp_rules.specs.Next.{Sending, fitting, flags_of, in_turn, next_batches, used_up_to}
use Rattle.kp_rules.specs.Records.{Core, Partition}
use Rattle.kp_rules.proofs.FittingLemmas.{sending_fits}
use Rattle.kp_rules.proofs.SendingLemmas.{IsSent, all_sending}
use Rattle.kp_core.specs.Choosing.{numbered_from, sends_in}

-- ---- numbered lists

numbered-drop : {A : Type 0} (n k : ℕ) (xs : List A) → enumerate_from (k + n) (drop n xs) ≡ drop n (enumerate_from k xs)
numbered-drop zero k xs = let same : k + 0 ≡ k = omega arith in ap (λ (m : ℕ). enumerate_from m xs) same
numbered-drop (suc n) k [] = refl
numbered-drop (suc n) k (x ∷ xs) =
    let next : k + suc n ≡ k + 1 + n = omega arith in
    ap (λ (m : ℕ). enumerate_from m (drop n xs)) next ∙ numbered-drop n (k + 1) xs

numbered-take : {A : Type 0} (n k : ℕ) (xs : List A) → enumerate_from k (take n xs) ≡ take n (enumerate_from k xs)
numbered-take zero k xs = refl
numbered-take (suc n) k [] = refl
numbered-take {A} (suc n) k (x ∷ xs) = ap (λ (rest : List (ℕ × A)). (k, x) ∷ rest) (numbered-take n (k + 1) xs)

drop-min : {A : Type 0} (n : ℕ) (xs : List A) → drop (min n (length xs)) xs ≡ drop n xs
drop-min n xs = elim (cases_lt n (length xs)) [
  | inl below ↦ let same : min n (length xs) ≡ n = omega arith in rw same refl
  | inr past ↦ let same : min n (length xs) ≡ length xs = omega arith in rw same (drop_all (length xs) xs (omega arith) ∙ sym (drop_all n xs past))
]

take-min : {A : Type 0} (n : ℕ) (xs : List A) → take (min n (length xs)) xs ≡ take n xs
take-min n xs = elim (cases_lt n (length xs)) [
  | inl below ↦ let same : min n (length xs) ≡ n = omega arith in rw same refl
  | inr past ↦ let same : min n (length xs) ≡ length xs = omega arith in rw same (take_all (length xs) xs (omega arith) ∙ sym (take_all n xs past))
]

-- ---- in turn

in_turn-is : (node : ℕ) (s : Core) (first : ℕ) → first ≡ min (used_up_to node s.turns) (length s.partitions)
    → numbered_from first s.partitions ≡ in_turn node s
in_turn-is node s first is =
    let all : List (ℕ × Partition) = enumerate_from 0 s.partitions in
    let n = used_up_to node s.turns in
    let zero-first : 0 + first ≡ first = omega arith in
    let at : first ≡ min n (length all) = is ∙ ap (min n) (sym (length-enumerate_from 0 s.partitions)) in
    ap (λ (m : ℕ). enumerate_from m (drop first s.partitions) ++ enumerate_from 0 (take first s.partitions)) (sym zero-first)
    ∙ ap (λ (xs : List (ℕ × Partition)). xs ++ enumerate_from 0 (take first s.partitions)) (numbered-drop first 0 s.partitions)
    ∙ ap (λ (xs : List (ℕ × Partition)). drop first all ++ xs) (numbered-take first 0 s.partitions)
    ∙ ap (λ (m : ℕ). drop m all ++ take m all) at
    ∙ ap (λ (xs : List (ℕ × Partition)). xs ++ take (min n (length all)) all) (drop-min n all)
    ∙ ap (λ (xs : List (ℕ × Partition)). drop n all ++ xs) (take-min n all)

-- ---- what is sent

abbrev pub all_sendings : ℕ → ℕ → Core → List Sending
all_sendings node now s = filter_map (sends_in node s.config (flags_of s) now) (in_turn node s)

pub next_batches-is : (node now : ℕ) (s : Core) (xs : List Sending) → xs ≡ all_sendings node now s → fitting s.config.max_request_size xs ≡ next_batches node now s
unfolding next_batches
next_batches-is node now s xs is = ap (fitting s.config.max_request_size) is

-- where a partition may send, something goes out
pub some_fit : (node now : ℕ) (s : Core) → IsInOrder s → (all_sendings node now s ≡ [] → ⊥) → next_batches node now s ≡ [] → ⊥
unfolding next_batches fitting
some_fit node now s order some none = at_list (all_sendings node now s) (all_sending node now s) some none
  where
    within : (n m : ℕ) → n ≤ m → nat_le n m ≡ true
    within n m le = grind (arith, nat_tests)

    at_list : (xs : List Sending) → AllByRecursion (IsSent now s) xs → (xs ≡ [] → ⊥) → fitting s.config.max_request_size xs ≡ [] → ⊥
    at_list [] all some none = some refl
    at_list (x ∷ xs) all some none =
        let fits = within (size_of x.batch.items) s.config.max_request_size (sending_fits now s order x all.0).size in
        let first : fitting s.config.max_request_size (x ∷ xs) ≡ x ∷ fitting (s.config.max_request_size - size_of x.batch.items) xs =
        ap (λ (b : Bool). if b then x ∷ fitting (s.config.max_request_size - size_of x.batch.items) xs else []) fits in
        absurd cc

-- nothing is in both lists where nothing is in the two
pub none_first : {A : Type 0} (xs ys : List A) → xs ++ ys ≡ [] → xs ≡ []
none_first [] ys e = refl
none_first (x ∷ xs) ys e = absurd cc

pub none_second : {A : Type 0} (xs ys : List A) → xs ++ ys ≡ [] → ys ≡ []
none_second [] ys e = e
none_second (x ∷ xs) ys e = absurd cc

-- ---- gathered from the first in turn on

pub gathered : (node now : ℕ) (s : Core) (first : ℕ) (flags : Flags) → first ≡ min (used_up_to node s.turns) (length s.partitions) → flags ≡ flags_of s
    → filter_map (sends_in node s.config flags now) (numbered_from first s.partitions) ≡ all_sendings node now s
gathered node now s first flags is pressed =
    ap (λ (f : Flags). filter_map (sends_in node s.config f now) (numbered_from first s.partitions)) pressed
    ∙ ap (filter_map (sends_in node s.config (flags_of s) now)) (in_turn-is node s first is)
