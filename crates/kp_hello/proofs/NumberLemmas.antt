-- Numbers from 0 on, each once, found by going over them once.
use Rattle.std.proofs.Common.{◌≡◌, ℕ, zero, suc, ◌+◌, ◌<◌, ◌≤◌, Bool, true, false, cond, List, [], ◌∷◌, length, take, get_or, ℤ, pos, negsuc, refl, sym, ap, subst, ◌∙◌, inl, inr, arith}
use Rattle.std.specs.Prelude.{count_by, ◌==◌, ◌&&◌, nat_le}
use Rattle.std.proofs.Math.ListN.{replicate, set, length-set}
use Rattle.std.proofs.lemmas.List.{get_or-set_same, get_or-set_other, take_all}
use Rattle.kp_hello.specs.declared.hello.TheConstants.{PARTITION_LIMIT}
use Rattle.std.specs.Bool.{Decides}
use Rattle.std.proofs.lemmas.Bool.{cases_lt, cases_eq, le-leb}
use Rattle.std.proofs.lemmas.Bool.Decides.{Decides-int_eq, Decides-eqb, Decides-below_and}
use Rattle.std.proofs.lemmas.List.Sums.{sum_by-cons, sum_by_more, sum_by_more_le}
use Rattle.kp_frames.specs.declared.metadata.PartitionMetadata.{PartitionMetadata}
use Rattle.kp_hello.specs.Hello.{has_number, each_once, are_numbered}

-- ---- one partition

pos_same : (a b : ℕ) → pos a ≡ pos b → a ≡ b
pos_same a b h = cc

-- 1 where the partition has this number
abbrev pub hit : ℕ → PartitionMetadata → ℕ
hit k p = cond (has_number k p) 1 0

pub hit_same : (k : ℕ) (p : PartitionMetadata) → p.partition ≡ pos k → hit k p ≡ 1
hit_same k p e = ap (λ (b : Bool). cond {A = ℕ} b 1 0) ((Decides-int_eq p.partition (pos k)).1 e)

hit_other : (k : ℕ) (p : PartitionMetadata) → (p.partition ≡ pos k → ⊥) → hit k p ≡ 0
hit_other k p ne = at (has_number k p) refl
  where
    at : (b : Bool) → has_number k p ≡ b → ◌≡◌ {A = ℕ} (cond b 1 0) 0
    at true e = absurd (ne ((Decides-int_eq p.partition (pos k)).0 e))
    at false e = refl

-- how many of the numbers below n are the partition's
pub hits : ℕ → PartitionMetadata → ℕ
hits zero p = 0
hits (suc n) p = hits n p + hit n p

pub hits_none : (n : ℕ) (p : PartitionMetadata) → ((k : ℕ) → k < n → p.partition ≡ pos k → ⊥) → hits n p ≡ 0
unfolding hits
hits_none zero p ne = refl
hits_none (suc n) p ne =
    let less : hits n p ≡ 0 = hits_none n p (λ k lt. ne k (omega arith)) in
    let none : hit n p ≡ 0 = hit_other n p (ne n (omega arith)) in
    omega arith

pub hits_one : (n m : ℕ) (p : PartitionMetadata) → p.partition ≡ pos m → m < n → hits n p ≡ 1
unfolding hits
hits_one zero m p e lt = absurd (omega arith)
hits_one (suc n) m p e lt =
    elim (cases_lt m n) [
      | inl below ↦
          let less : hits n p ≡ 1 = hits_one n m p e below in
          let none : hit n p ≡ 0 = hit_other n p (λ e'. let same : m ≡ n = pos_same m n (sym e ∙ e') in omega arith) in
          omega arith
      | inr from ↦
          let is : m ≡ n = omega arith in
          let less : hits n p ≡ 0 = hits_none n p (λ k lt' e'. let same : m ≡ k = pos_same m k (sym e ∙ e') in omega arith) in
          let one : hit n p ≡ 1 = hit_same n p (e ∙ ap pos is) in
          omega arith
    ]

pub hits_less : (n : ℕ) (p : PartitionMetadata) → hits n p ≤ 1
hits_less n p = at p.partition refl
  where
    negative : (j k : ℕ) → negsuc j ≡ pos k → ⊥
    negative j k h = cc

    at : (z : ℤ) → p.partition ≡ z → hits n p ≤ 1
    at (pos m) e =
        elim (cases_lt m n) [
          | inl below ↦ let one : hits n p ≡ 1 = hits_one n m p e below in omega arith
          | inr from ↦
              let none : hits n p ≡ 0 = hits_none n p (λ k lt e'. let same : m ≡ k = pos_same m k (sym e ∙ e') in omega arith) in
              omega arith
        ]
    at (negsuc j) e =
        let none : hits n p ≡ 0 = hits_none n p (λ k lt e'. negative j k (sym e ∙ e')) in omega arith

-- ---- all partitions

-- how often the numbers below n stand among the partitions
pub total : ℕ → List PartitionMetadata → ℕ
total zero ps = 0
total (suc n) ps = total n ps + count_by (has_number n) ps

pub total_none : (n : ℕ) → total n [] ≡ 0
unfolding total
total_none zero = refl
total_none (suc n) = let less : total n [] ≡ 0 = total_none n in omega arith

total-cons : (n : ℕ) (p : PartitionMetadata) (ps : List PartitionMetadata) → total n (p ∷ ps) ≡ hits n p + total n ps
unfolding total hits
total-cons zero p ps = refl
total-cons (suc n) p ps =
    let less : total n (p ∷ ps) ≡ hits n p + total n ps = total-cons n p ps in
    let one : count_by (has_number n) (p ∷ ps) ≡ hit n p + count_by (has_number n) ps = sum_by-cons (hit n) p ps in
    omega arith

pub total_more : (n : ℕ) (ps : List PartitionMetadata) (i : ℕ) (d : PartitionMetadata) → i < length ps → total n (take (i + 1) ps) ≡ total n (take i ps) + hits n (get_or ps i d)
unfolding total hits
total_more zero ps i d lt = refl
total_more (suc n) ps i d lt =
    let less : total n (take (i + 1) ps) ≡ total n (take i ps) + hits n (get_or ps i d) = total_more n ps i d lt in
    let one : count_by (has_number n) (take (i + 1) ps) ≡ count_by (has_number n) (take i ps) + hit n (get_or ps i d) = sum_by_more (hit n) ps i d lt in
    omega arith

total_le : (n : ℕ) (ps : List PartitionMetadata) → total n ps ≤ length ps
total_le n [] = omega (arith, total_none n)
total_le n (p ∷ ps) = omega (arith, total-cons n p ps, hits_less n p, total_le n ps)

-- one that has none of the numbers leaves too few
total_short : (n : ℕ) (ps : List PartitionMetadata) (i : ℕ) (d : PartitionMetadata) → i < length ps → hits n (get_or ps i d) ≡ 0 → total n ps < length ps
total_short n [] i d lt none = absurd (omega arith)
total_short n (p ∷ ps) zero d lt none = omega (arith, total-cons n p ps, total_le n ps, none)
total_short n (p ∷ ps) (suc i) d lt none = omega (arith, total-cons n p ps, hits_less n p, total_short n ps i d (omega arith) none)

-- ---- each number once

pub once : (n : ℕ) (ps : List PartitionMetadata) → Decides (each_once n ps) ((k : ℕ) → k < n → count_by (has_number k) ps ≡ 1)
unfolding each_once
once n ps = Decides-below_and (λ k. count_by (has_number k) ps == 1) (λ k. count_by (has_number k) ps ≡ 1) (λ m. each_once m ps) (λ k. Decides-eqb (count_by (has_number k) ps) 1) refl (λ _. refl) n

total_each : (n : ℕ) (ps : List PartitionMetadata) → ((k : ℕ) → k < n → count_by (has_number k) ps ≡ 1) → total n ps ≡ n
unfolding total
total_each zero ps each = refl
total_each (suc n) ps each =
    let less : total n ps ≡ n = total_each n ps (λ k lt. each k (omega arith)) in
    let one : count_by (has_number n) ps ≡ 1 = each n (omega arith) in
    omega arith

total_most : (n : ℕ) (ps : List PartitionMetadata) → ((k : ℕ) → k < n → count_by (has_number k) ps ≤ 1) → total n ps ≤ n
unfolding total
total_most zero ps most = omega arith
total_most (suc n) ps most =
    let less : total n ps ≤ n = total_most n ps (λ k lt. most k (omega arith)) in
    let one : count_by (has_number n) ps ≤ 1 = most n (omega arith) in
    omega arith

-- where none stands twice, and as many stand there as there are numbers, each stands once
each_of_total : (n : ℕ) (ps : List PartitionMetadata) → ((k : ℕ) → k < n → count_by (has_number k) ps ≤ 1) → total n ps ≡ n → (k : ℕ) → k < n → count_by (has_number k) ps ≡ 1
unfolding total
each_of_total zero ps most all k lt = absurd (omega arith)
each_of_total (suc n) ps most all k lt =
    let less : total n ps ≤ n = total_most n ps (λ j lt'. most j (omega arith)) in
    let one : count_by (has_number n) ps ≤ 1 = most n (omega arith) in
    elim (cases_lt k n) [
      | inl below ↦ each_of_total n ps (λ j lt'. most j (omega arith)) (omega arith) k below
      | inr from ↦ let is : k ≡ n = omega arith in subst (λ j. count_by (has_number j) ps ≡ 1) (sym is) (omega arith)
    ]

-- ---- what a run over the partitions finds

-- a partition with none of the numbers
pub not_each_outside : (n : ℕ) (ps : List PartitionMetadata) (i : ℕ) (d : PartitionMetadata) → length ps ≡ n → i < length ps → ((k : ℕ) → k < n → (get_or ps i d).partition ≡ pos k → ⊥) → each_once n ps ≡ false
not_each_outside n ps i d len lt outside = at (each_once n ps) refl
  where
    at : (b : Bool) → each_once n ps ≡ b → b ≡ false
    at true e =
        let all : total n ps ≡ n = total_each n ps ((once n ps).0 e) in
        absurd (omega (arith, total_short n ps i d lt (hits_none n (get_or ps i d) outside)))
    at false e = refl

-- a partition whose number another before it has
pub not_each_twice : (n : ℕ) (ps : List PartitionMetadata) (i k : ℕ) (d : PartitionMetadata) → i < length ps → k < n → (get_or ps i d).partition ≡ pos k → count_by (has_number k) (take i ps) ≡ 1 → each_once n ps ≡ false
not_each_twice n ps i k d lt below is before = at (each_once n ps) refl
  where
    at : (b : Bool) → each_once n ps ≡ b → b ≡ false
    at true e =
        let one : count_by (has_number k) ps ≡ 1 = (once n ps).0 e k below in
        let two : count_by (has_number k) (take i ps) + hit k (get_or ps i d) ≤ count_by (has_number k) ps = sum_by_more_le (hit k) ps i d lt in
        let here : hit k (get_or ps i d) ≡ 1 = hit_same k (get_or ps i d) is in
        absurd (omega arith)
    at false e = refl

-- each found once, and all of them among the numbers
pub each_found : (n : ℕ) (ps : List PartitionMetadata) → ((k : ℕ) → k < n → count_by (has_number k) ps ≤ 1) → total n ps ≡ n → each_once n ps ≡ true
each_found n ps most all = (once n ps).1 (each_of_total n ps most all)

-- The first i partitions were found: which numbers, and each of them once.
pub record Found (n i : ℕ) (ps : List PartitionMetadata) (seen : List Bool) : Type 0 where
  pub marks : (k : ℕ) → k < n → count_by (has_number k) (take i ps) ≡ cond (get_or seen k false) 1 0
  pub all : total n (take i ps) ≡ i
  pub room : length seen ≡ PARTITION_LIMIT

pub found_none : (n : ℕ) (ps : List PartitionMetadata) (seen : List Bool) → length seen ≡ PARTITION_LIMIT → ((k : ℕ) → get_or seen k false ≡ false) → Found n 0 ps seen
found_none n ps seen room none = record {
  marks = λ k lt. ap (λ (b : Bool). cond {A = ℕ} b 1 0) (sym (none k));
  all = total_none n;
  room = room;
}

pub found_more : (n i : ℕ) (ps : List PartitionMetadata) (seen : List Bool) (place : ℕ) (d : PartitionMetadata) → Found n i ps seen → n ≤ PARTITION_LIMIT → i < length ps → (get_or ps i d).partition ≡ pos place
    → place < n → get_or seen place false ≡ false → Found n (i + 1) ps (set seen place true)
found_more n i ps seen place d found limit lt is below none = record {
  marks = λ k under.
      let more : count_by (has_number k) (take (i + 1) ps) ≡ count_by (has_number k) (take i ps) + hit k (get_or ps i d) = sum_by_more (hit k) ps i d lt in
      elim (cases_eq k place) [
        | inl same ↦
            let was : count_by (has_number k) (take i ps) ≡ 0 = found.marks k under ∙ ap (λ (j : ℕ). cond {A = ℕ} (get_or seen j false) 1 0) same ∙ ap (λ (b : Bool). cond {A = ℕ} b 1 0) none in
            let one : hit k (get_or ps i d) ≡ 1 = hit_same k (get_or ps i d) (is ∙ ap pos (sym same)) in
            let room' : place < length seen = omega (arith, found.room) in
            let mark : get_or (set seen place true) k false ≡ true = ap (λ (j : ℕ). get_or (set seen place true) j false) same ∙ get_or-set_same seen place true false room' in
            let is_one : cond {A = ℕ} (get_or (set seen place true) k false) 1 0 ≡ 1 = ap (λ (b : Bool). cond {A = ℕ} b 1 0) mark in
            omega arith
        | inr other ↦
            let none' : hit k (get_or ps i d) ≡ 0 = hit_other k (get_or ps i d) (λ e. other (pos_same k place (sym e ∙ is))) in
            let mark : get_or (set seen place true) k false ≡ get_or seen k false = get_or-set_other seen place k true false other in
            let same : cond {A = ℕ} (get_or (set seen place true) k false) 1 0 ≡ cond {A = ℕ} (get_or seen k false) 1 0 = ap (λ (b : Bool). cond {A = ℕ} b 1 0) mark in
            let was = found.marks k under in
            omega arith
      ];
  all =
      let more = total_more n ps i d lt in
      let one = hits_one n place (get_or ps i d) is below in
      let was = found.all in
      omega arith;
  room = length-set seen place true ∙ found.room;
}

-- what is found at most once
pub found_once : (n i : ℕ) (ps : List PartitionMetadata) (seen : List Bool) → Found n i ps seen → (k : ℕ) → k < n → count_by (has_number k) (take i ps) ≤ 1
found_once n i ps seen found k lt = at (get_or seen k false) (found.marks k lt)
  where
    at : (b : Bool) → count_by (has_number k) (take i ps) ≡ cond {A = ℕ} b 1 0 → count_by (has_number k) (take i ps) ≤ 1
    at true e = omega arith
    at false e = omega arith

-- ---- the test

and_none : (b : Bool) → (b && false) ≡ false
and_none true = refl
and_none false = refl

pub not_numbered : (ps : List PartitionMetadata) → each_once (length ps) ps ≡ false → false ≡ are_numbered ps
not_numbered ps e = sym (ap (λ (b : Bool). nat_le 1 (length ps) && nat_le (length ps) PARTITION_LIMIT && b) e ∙ and_none (nat_le 1 (length ps) && nat_le (length ps) PARTITION_LIMIT))

pub numbered : (ps : List PartitionMetadata) (seen : List Bool) → 1 ≤ length ps → length ps ≤ PARTITION_LIMIT → Found (length ps) (length ps) ps seen → true ≡ are_numbered ps
numbered ps seen some limit found =
    let whole : take (length ps) ps ≡ ps = take_all (length ps) ps (omega arith) in
    let once' : (k : ℕ) → k < length ps → count_by (has_number k) ps ≤ 1 = λ k lt. subst (λ (xs : List PartitionMetadata). count_by (has_number k) xs ≤ 1) whole (found_once (length ps) (length ps) ps seen found k lt) in
    let all : total (length ps) ps ≡ length ps = ap (total (length ps)) (sym whole) ∙ found.all in
    let each = each_found (length ps) ps once' all in
    let a : nat_le 1 (length ps) ≡ true = le-leb 1 (length ps) some in
    let b : nat_le (length ps) PARTITION_LIMIT ≡ true = le-leb (length ps) PARTITION_LIMIT limit in
    sym (ap (λ (t : Bool). t && nat_le (length ps) PARTITION_LIMIT && each_once (length ps) ps) a ∙ ap (λ (t : Bool). t && each_once (length ps) ps) b ∙ each)

-- no number is found in a list of no marks
pub no_marks : (n k : ℕ) → get_or (replicate n false) k false ≡ false
no_marks zero k = refl
no_marks (suc n) zero = refl
no_marks (suc n) (suc k) = no_marks n k
